-- The first of what is found in a tree.
use Rattle.std.proofs.Common.{◌≡◌, ℕ, ◌≤◌, nat_le, Bool, true, false, if◌then◌else◌, List, [], ◌∷◌, ◌++◌, Option, Some, None, refl, ◌∙◌, arith, codes}
use Rattle.std.specs.Prelude.{Result, Ok, Err, IfOk, IfErr, OnOk, ◌≢◌}
use Rattle.std.proofs.lemmas.Bool.Decides.{nat_tests}
use Rattle.std.proofs.lemmas.List.Elements.{All-nil, All-cons, All-weaker, All-contains, Contains-push, Contains-append_left, Contains-append_right}
use Rattle.std.proofs.lemmas.List.Folds.{list_all-append}
use Rattle.std.specs.List.{list_all}
use Rattle.std.proofs.lemmas.List.Sums.{AllPass-from_list_all}
use Rattle.toml.specs.Data.{Data, Items, no_items, item, Members, get_member, as_str, as_integer, as_bool, as_array, as_table}
use Rattle.jg_policy.specs.declared.fault.SetupFault.{SetupFault}
use Rattle.jg_policy.specs.declared.fault.SetupFault.TheVariants.{NoMemory, UnknownKey, BadVersion, BadMode, BadName, Duplicate, TooMany}
use Rattle.jg_policy.specs.declared.names.Spelling.{Spelling}
use Rattle.jg_policy.specs.declared.names.Spelling.TheVariants.{ModuleName, ClassName, MemberName, FieldType, NativeType}
use Rattle.jg_policy.specs.Faults.{rank, earlier, first_of, IsFirstFault}
use Rattle.jg_policy.specs.Stated.{StatedSetup, is_version_2, setup_stated}
use Rattle.toml.specs.Parse.{parse_document}
use Rattle.jg_policy.specs.Findings.{fault_if, has_unknown_key, has_unknown_setup_key, member_keys, class_keys, grant_keys, operation_faults, grant_table_faults, grant_faults, granting_faults, setup_heading_faults, setup_lists_faults, States, required, optional, of_type, each_of, version_faults, mode_faults, truth_faults, text_faults, array_faults, member_table_faults, member_faults, class_table_faults, class_faults, shape_faults, tree_faults, states_twice, is_too_large, text_faults_of}
use Rattle.jg_policy.proofs.Firsts.{first_of-append}

-- ---- the first of a list

chosen : (b : Bool) (x g f : SetupFault) → (if b then Some x else Some g) ≡ Some f → nat_le (rank x) (rank g) ≡ b → (xs : List SetupFault)
    → IsFirstFault xs g → IsFirstFault (x ∷ xs) f
chosen true x g f same le xs rest =
    let is : x ≡ f = cc in
    let below : rank x ≤ rank g = grind (arith, nat_tests) in
    rw (← is) (record {
      among = Contains-append_left (x ∷ []) xs x (Contains-push [] x);
      first = All-cons (λ other. rank x ≤ rank other) x xs (omega arith)
          (All-weaker (λ other. rank g ≤ rank other) (λ other. rank x ≤ rank other) (λ y h. omega arith) xs rest.first);
    })
chosen false x g f same le xs rest =
    let is : g ≡ f = cc in
    let above : rank g ≤ rank x = grind (arith, nat_tests) in
    rw (← is) (record {
      among = Contains-append_right (x ∷ []) xs g rest.among;
      first = All-cons (λ other. rank g ≤ rank other) x xs above rest.first;
    })

pub none_found : (xs : List SetupFault) → first_of xs ≡ None → xs ≡ []
none_found [] h = refl
none_found (x ∷ xs) h = absurd (some_earlier x (first_of xs) h)
  where
    decided : (b : Bool) (x g : SetupFault) → (if b then Some x else Some g) ≡ None → ⊥
    decided true x g h = cc
    decided false x g h = cc

    some_earlier : (x : SetupFault) (o : Option SetupFault) → earlier (Some x) o ≡ None → ⊥
    some_earlier x None h = cc
    some_earlier x (Some g) h = decided _ x g h

alone : (x f : SetupFault) (xs : List SetupFault) → Some x ≡ Some f → xs ≡ [] → IsFirstFault (x ∷ xs) f
alone x f xs same none =
    let is : x ≡ f = cc in
    rw (none, ← is) (record {
      among = Contains-push [] x;
      first = All-cons (λ other. rank x ≤ rank other) x [] (omega arith) (All-nil _);
    })

pub first_found : (xs : List SetupFault) (f : SetupFault) → first_of xs ≡ Some f → IsFirstFault xs f
first_found [] f h = absurd (let no : ⊥ = cc in no)
first_found (x ∷ xs) f h = step (first_of xs) refl h (first_found xs)
  where
    step : (o : Option SetupFault) → first_of xs ≡ o → earlier (Some x) o ≡ Some f → ((g : SetupFault) → first_of xs ≡ Some g → IsFirstFault xs g)
        → IsFirstFault (x ∷ xs) f
    step None e same rest = alone x f xs same (none_found xs e)
    step (Some g) e same rest = chosen (nat_le (rank x) (rank g)) x g f same refl xs (rest g e)

-- ---- faults of shape and spelling come before the others

abbrev is_early : SetupFault → Bool
is_early f = nat_le (rank f) 6

abbrev are_early : List SetupFault → Bool
are_early xs = list_all is_early xs

both : (xs ys : List SetupFault) → are_early xs ≡ true → are_early ys ≡ true → are_early (xs ++ ys) ≡ true
both xs ys h k = rw (list_all-append is_early xs ys, h, k)

early_if : (b : Bool) (f : SetupFault) → is_early f ≡ true → are_early (fault_if b f) ≡ true
early_if true f h = rw h
early_if false f h = refl

early_type : {A : Type 0} (rule : A → List SetupFault) → ((a : A) → are_early (rule a) ≡ true) → (o : Option A) → are_early (of_type rule o) ≡ true
early_type rule h None = refl
early_type rule h (Some a) = h a

early_required : (rule : Data → List SetupFault) → ((d : Data) → are_early (rule d) ≡ true) → (o : Option Data) → are_early (required rule o) ≡ true
early_required rule h None = refl
early_required rule h (Some d) = h d

early_optional : (rule : Data → List SetupFault) → ((d : Data) → are_early (rule d) ≡ true) → (o : Option Data) → are_early (optional rule o) ≡ true
early_optional rule h None = refl
early_optional rule h (Some d) = h d

early_each : (rule : Data → List SetupFault) → ((d : Data) → are_early (rule d) ≡ true) → (ds : Items) → are_early (each_of rule ds) ≡ true
early_each rule h no_items = refl
early_each rule h (item d ds) = both (rule d) (each_of rule ds) (h d) (early_each rule h ds)

early_array : (rule : Data → List SetupFault) → ((d : Data) → are_early (rule d) ≡ true) → (d : Data) → are_early (array_faults rule d) ≡ true
early_array rule h d = early_type (each_of rule) (early_each rule h) (as_array d)

early_text : (spelling : Spelling) (d : Data) → are_early (text_faults spelling d) ≡ true
early_text spelling d = early_type _ (λ text. early_if _ BadName refl) (as_str d)

early_version : (d : Data) → are_early (version_faults d) ≡ true
early_version d = early_type _ (λ z. early_if _ BadVersion refl) (as_integer d)

early_mode : (d : Data) → are_early (mode_faults d) ≡ true
early_mode d = early_type _ (λ text. early_if _ BadMode refl) (as_str d)

early_truth : (d : Data) → are_early (truth_faults d) ≡ true
early_truth d = early_type _ (λ b. refl) (as_bool d)

early_member : (spelling : Spelling) (d : Data) → are_early (member_faults spelling d) ≡ true
early_member spelling d =
    early_type (member_table_faults spelling)
    (λ ms.
    let name : are_early (required (text_faults MemberName) (get_member (codes "name") ms)) ≡ true =
    early_required (text_faults MemberName) (early_text MemberName) (get_member (codes "name") ms) in
    let signature : are_early (required (text_faults spelling) (get_member (codes "type") ms)) ≡ true =
    early_required (text_faults spelling) (early_text spelling) (get_member (codes "type") ms) in
    let unknown : are_early (fault_if (has_unknown_key member_keys ms) UnknownKey) ≡ true = early_if (has_unknown_key member_keys ms) UnknownKey refl in
    simp (list_all-append) (rw (unknown, name, signature)))
    (as_table d)

early_class_table : (ms : Members) → are_early (class_table_faults ms) ≡ true
early_class_table ms =
    let unknown : are_early (fault_if (has_unknown_key class_keys ms) UnknownKey) ≡ true = early_if (has_unknown_key class_keys ms) UnknownKey refl in
    let name : are_early (required (text_faults ClassName) (get_member (codes "name") ms)) ≡ true =
    early_required (text_faults ClassName) (early_text ClassName) (get_member (codes "name") ms) in
    let module_name : are_early (required (text_faults ModuleName) (get_member (codes "module") ms)) ≡ true =
    early_required (text_faults ModuleName) (early_text ModuleName) (get_member (codes "module") ms) in
    let throwable : are_early (optional truth_faults (get_member (codes "throwable") ms)) ≡ true =
    early_optional truth_faults early_truth (get_member (codes "throwable") ms) in
    let fields : are_early (optional (array_faults (member_faults FieldType)) (get_member (codes "fields") ms)) ≡ true =
    early_optional (array_faults (member_faults FieldType)) (early_array (member_faults FieldType) (early_member FieldType)) (get_member (codes "fields") ms) in
    let natives : are_early (optional (array_faults (member_faults NativeType)) (get_member (codes "natives") ms)) ≡ true =
    early_optional (array_faults (member_faults NativeType)) (early_array (member_faults NativeType) (early_member NativeType))
    (get_member (codes "natives") ms) in
    simp (list_all-append) (rw (unknown, name, module_name, throwable, fields, natives))

early_class : (d : Data) → are_early (class_faults d) ≡ true
early_class d = early_type class_table_faults early_class_table (as_table d)

early_operation : (d : Data) → are_early (operation_faults d) ≡ true
early_operation d = early_type _ (λ text. early_if _ BadMode refl) (as_str d)

early_grant : (d : Data) → are_early (grant_faults d) ≡ true
early_grant d =
    early_type grant_table_faults
    (λ ms.
    let unknown : are_early (fault_if (has_unknown_key grant_keys ms) UnknownKey) ≡ true = early_if (has_unknown_key grant_keys ms) UnknownKey refl in
    let module_name : are_early (required (text_faults ModuleName) (get_member (codes "module") ms)) ≡ true =
    early_required (text_faults ModuleName) (early_text ModuleName) (get_member (codes "module") ms) in
    let operations : are_early (required (array_faults operation_faults) (get_member (codes "operations") ms)) ≡ true =
    early_required (array_faults operation_faults) (early_array operation_faults early_operation) (get_member (codes "operations") ms) in
    simp (list_all-append) (rw (unknown, module_name, operations)))
    (as_table d)

early_either : (b : Bool) (xs ys : List SetupFault) → are_early xs ≡ true → are_early ys ≡ true → are_early (if b then xs else ys) ≡ true
early_either true xs ys h k = h
early_either false xs ys h k = k

early_granting : (ms : Members) → are_early (granting_faults ms) ≡ true
early_granting ms =
    early_either (is_version_2 ms) _ _
    (early_optional (array_faults grant_faults) (early_array grant_faults early_grant) (get_member (codes "grant") ms))
    (early_optional (array_faults (text_faults ModuleName)) (early_array (text_faults ModuleName) (early_text ModuleName))
    (get_member (codes "enable_native_access") ms))

early_shape : (ms : Members) → are_early (shape_faults ms) ≡ true
early_shape ms =
    let unknown : are_early (fault_if (has_unknown_setup_key ms) UnknownKey) ≡ true = early_if (has_unknown_setup_key ms) UnknownKey refl in
    let version : are_early (required version_faults (get_member (codes "version") ms)) ≡ true =
    early_required version_faults early_version (get_member (codes "version") ms) in
    let mode : are_early (required mode_faults (get_member (codes "illegal_native_access") ms)) ≡ true =
    early_required mode_faults early_mode (get_member (codes "illegal_native_access") ms) in
    let classes : are_early (optional (array_faults class_faults) (get_member (codes "class") ms)) ≡ true =
    early_optional (array_faults class_faults) (early_array class_faults early_class) (get_member (codes "class") ms) in
    both (setup_heading_faults ms) (setup_lists_faults ms)
    (both (fault_if (has_unknown_setup_key ms) UnknownKey) _ unknown (both (required version_faults (get_member (codes "version") ms)) _ version mode))
    (both (granting_faults ms) _ (early_granting ms) classes)

found_early : (xs : List SetupFault) (f : SetupFault) → are_early xs ≡ true → first_of xs ≡ Some f → is_early f ≡ true
found_early xs f early found = All-contains (λ x. is_early x ≡ true) xs f (AllPass-from_list_all is_early xs early) (first_found xs f found).among

before_rest : (f : SetupFault) (a b : Bool) → is_early f ≡ true → earlier (Some f) (first_of (fault_if a Duplicate ++ fault_if b TooMany)) ≡ Some f
before_rest f false false h = refl
before_rest f false true h = let le : nat_le (rank f) 8 ≡ true = grind (arith, nat_tests) in rw le
before_rest f true false h = let le : nat_le (rank f) 7 ≡ true = grind (arith, nat_tests) in rw le
before_rest f true true h = let le : nat_le (rank f) 7 ≡ true = grind (arith, nat_tests) in rw le

pub shape_answers : (ms : Members) (f : SetupFault) → first_of (shape_faults ms) ≡ Some f → first_of (tree_faults ms) ≡ Some f
shape_answers ms f found =
    first_of-append (shape_faults ms) _ ∙ rw found (before_rest f _ _ (found_early (shape_faults ms) f (early_shape ms) found))

repeat_first : (b : Bool) → first_of (Duplicate ∷ fault_if b TooMany) ≡ Some Duplicate
repeat_first true = refl
repeat_first false = refl

pub repeat_answers : (ms : Members) → first_of (shape_faults ms) ≡ None → states_twice (setup_stated ms).classes ≡ true
    → first_of (tree_faults ms) ≡ Some Duplicate
repeat_answers ms none twice = first_of-append (shape_faults ms) _ ∙ rw (none, twice) (repeat_first (is_too_large (setup_stated ms)))

pub size_answers : (ms : Members) → first_of (shape_faults ms) ≡ None → states_twice (setup_stated ms).classes ≡ false → is_too_large (setup_stated ms) ≡ true
    → first_of (tree_faults ms) ≡ Some TooMany
size_answers ms none once large = first_of-append (shape_faults ms) _ ∙ rw (none, once, large)

pub clean_answers : (ms : Members) → first_of (shape_faults ms) ≡ None → states_twice (setup_stated ms).classes ≡ false → is_too_large (setup_stated ms) ≡ false
    → first_of (tree_faults ms) ≡ None
clean_answers ms none once small = first_of-append (shape_faults ms) _ ∙ rw (none, once, small)

-- ---- from the tree to the text

pub stated_by : (text : List ℕ) (ms : Members) (r : Result StatedSetup SetupFault) → parse_document text ≡ Some ms
    → IfOk r (λ setup. setup ≡ setup_stated ms) → OnOk r (tree_faults ms ≡ [])
    → IfOk r (States text)
stated_by text ms (Ok setup) is stated clean = (ms, is, clean, stated)
stated_by text ms (Err fault) is stated clean = tt

pub refused_by : (text : List ℕ) (ms : Members) (r : Result StatedSetup SetupFault) → parse_document text ≡ Some ms
    → IfErr r (λ fault. fault ≢ NoMemory → IsFirstFault (tree_faults ms) fault)
    → IfErr r (λ fault. fault ≢ NoMemory → IsFirstFault (text_faults_of (parse_document text)) fault)
refused_by text ms (Ok setup) is refused = tt
refused_by text ms (Err fault) is refused = λ other. rw is (refused other)
