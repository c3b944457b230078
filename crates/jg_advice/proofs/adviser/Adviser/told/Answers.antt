use Rattle.std.proofs.Common.{rules, ◌≡◌, ℕ, [], ◌∷◌, ◌++◌, refl, ◌∙◌, ap, sym, subst}
use Rattle.std.specs.Prelude.{option_to_list}
use Rattle.std.proofs.lemmas.List.{append-nil}
use Rattle.std.proofs.lemmas.Result.{on_ok_weaker}
use Rattle.jg_core.specs.declared.fact.Fact.TheVariants.{Begin, Enter, Free, Gone, Hand, Leave, Lend, Own, Pop}
use Rattle.jg_advice.specs.Moments.{Told}
use Rattle.jg_advice.specs.Standing.{AdviserState, Stands}
use Rattle.jg_advice.proofs.Standings.{fact_advised}
use Rattle.jg_advice.proofs.Tellings.{IsTold, quiet}
use Rattle.jg_advice.proofs.adviser.Adviser.told.Goals as goal

pub returns-in-Begin-clause-advised : goal.returns-in-Begin-clause-advised
returns-in-Begin-clause-advised g c = λ h p stands sees.
    let is : c.args.fact ≡ Begin c.in-Begin.tid = search rules in
    subst (IsTold c.args.self.now.most h c.args.line p c.args.out.now.items c.args.out.now.items) (sym is)
    ([], ([], [], refl, refl, refl), sym (append-nil c.args.out.now.items))

pub returns-in-Begin-clause-stands : goal.returns-in-Begin-clause-stands
returns-in-Begin-clause-stands g c = λ h p stands sees.
    let is : c.args.fact ≡ Begin c.in-Begin.tid = search rules in
    subst (λ x. Stands c.begin.new.self (record { line = c.args.line; what = Told x; parts = p } ∷ h)) (sym is) (c.begin.ensures.stands h p c.args.line stands)

pub returns-in-Enter-clause-advised : goal.returns-in-Enter-clause-advised
returns-in-Enter-clause-advised g c = λ h p stands sees.
    let is : c.args.fact ≡ Enter c.in-Enter.tid = search rules in
    subst (IsTold c.args.self.now.most h c.args.line p c.args.out.now.items c.args.out.now.items) (sym is)
    ([], ([], [], refl, refl, refl), sym (append-nil c.args.out.now.items))

pub returns-in-Enter-clause-stands : goal.returns-in-Enter-clause-stands
returns-in-Enter-clause-stands g c = λ h p stands sees.
    let is : c.args.fact ≡ Enter c.in-Enter.tid = search rules in
    subst (λ x. Stands c.enter.new.self (record { line = c.args.line; what = Told x; parts = p } ∷ h)) (sym is)
    (c.enter.ensures.stands h p c.args.line stands sees)

pub returns-in-Free-clause-advised : goal.returns-in-Free-clause-advised
returns-in-Free-clause-advised g c = λ h p stands sees.
    let is : c.args.fact ≡ Free c.in-Free.tid c.in-Free.object = search rules in
    subst (IsTold c.args.self.now.most h c.args.line p c.args.out.now.items c.args.out.now.items) (sym is)
    ([], ([], [], refl, refl, refl), sym (append-nil c.args.out.now.items))

pub returns-in-Free-clause-stands : goal.returns-in-Free-clause-stands
returns-in-Free-clause-stands g c = λ h p stands sees.
    let is : c.args.fact ≡ Free c.in-Free.tid c.in-Free.object = search rules in
    subst (λ x. Stands c.free.new.self (record { line = c.args.line; what = Told x; parts = p } ∷ h)) (sym is)
    (c.free.ensures.stands h p c.args.line stands sees)

pub returns-in_ok-push_if-in-Leave-clause-advised : goal.returns-in_ok-push_if-in-Leave-clause-advised
returns-in_ok-push_if-in-Leave-clause-advised g c = on_ok_weaker c.leave.result (λ any h p stands sees.
    let is : c.args.fact ≡ Leave c.in-Leave.tid c.in-Leave.kept = search rules in
    subst (IsTold c.args.self.now.most h c.args.line p c.args.out.now.items c.push_if.new.out.items) (sym is)
    (subst (λ (most : ℕ). IsTold most h c.args.line p c.args.out.now.items c.push_if.new.out.items (Leave c.in-Leave.tid c.in-Leave.kept))
    (ap (λ (v : AdviserState). v.most) c.self.view_is)
    (fact_advised _ h p c.args.line (Leave c.in-Leave.tid c.in-Leave.kept) (subst (λ (v : AdviserState). Stands v h) (sym c.self.view_is) stands) [] []
    c.args.out.now.items c.args.out.now.items c.args.out.now.items c.args.out.now.items c.push_if.new.out.items
    refl refl (sym (append-nil c.args.out.now.items)) (sym (append-nil c.args.out.now.items)) (sym (append-nil c.args.out.now.items))
    (c.in_ok-push_if-in-Leave.ensures ∙ ap (λ a. c.args.out.now.items ++ option_to_list a) (c.grown_by.ensures.left p sees))))) c.leave.ensures.stands

pub returns-in_ok-push_if-in-Leave-clause-stands : goal.returns-in_ok-push_if-in-Leave-clause-stands
returns-in_ok-push_if-in-Leave-clause-stands g c = on_ok_weaker c.leave.result (λ left h p stands sees.
    let is : c.args.fact ≡ Leave c.in-Leave.tid c.in-Leave.kept = search rules in
    subst (λ x. Stands c.leave.new.self (record { line = c.args.line; what = Told x; parts = p } ∷ h)) (sym is)
    (left h p c.args.line c.in-Leave.kept stands sees)) c.leave.ensures.stands

pub returns-in-Lend-clause-advised : goal.returns-in-Lend-clause-advised
returns-in-Lend-clause-advised g c = on_ok_weaker c.lend.result (λ says h p stands sees.
    let is : c.args.fact ≡ Lend c.in-Lend.tid c.in-Lend.family c.in-Lend.object c.in-Lend.via c.in-Lend.length = search rules in
    subst (IsTold c.args.self.now.most h c.args.line p c.args.out.now.items c.lend.new.out.items) (sym is)
    (says h p c.in-Lend.family c.in-Lend.object c.in-Lend.via c.in-Lend.length stands sees)) c.lend.ensures.advised

pub returns-in-Lend-clause-stands : goal.returns-in-Lend-clause-stands
returns-in-Lend-clause-stands g c = on_ok_weaker c.lend.result (λ stood h p stands sees.
    let is : c.args.fact ≡ Lend c.in-Lend.tid c.in-Lend.family c.in-Lend.object c.in-Lend.via c.in-Lend.length = search rules in
    subst (λ x. Stands c.lend.new.self (record { line = c.args.line; what = Told x; parts = p } ∷ h)) (sym is)
    (stood h p c.in-Lend.family c.in-Lend.object c.in-Lend.via c.in-Lend.length stands sees)) c.lend.ensures.stands

pub returns-in-Own-clause-advised : goal.returns-in-Own-clause-advised
returns-in-Own-clause-advised g c = on_ok_weaker c.own.result (λ any h p stands sees.
    let is : c.args.fact ≡ Own c.in-Own.tid c.in-Own.object = search rules in
    subst (IsTold c.args.self.now.most h c.args.line p c.args.out.now.items c.args.out.now.items) (sym is)
    ([], ([], [], refl, refl, refl), sym (append-nil c.args.out.now.items))) c.own.ensures.stands

pub returns-in-Pop-clause-advised : goal.returns-in-Pop-clause-advised
returns-in-Pop-clause-advised g c = on_ok_weaker c.push_if-in-Pop.result (λ pushed h p stands sees.
    let is : c.args.fact ≡ Pop c.in-Pop.tid c.in-Pop.kept = search rules in
    subst (IsTold c.args.self.now.most h c.args.line p c.args.out.now.items c.push_if-in-Pop.new.out.items) (sym is)
    (subst (λ (most : ℕ). IsTold most h c.args.line p c.args.out.now.items c.push_if-in-Pop.new.out.items (Pop c.in-Pop.tid c.in-Pop.kept))
    (ap (λ (v : AdviserState). v.most) c.self-in-Pop.view_is)
    (fact_advised _ h p c.args.line (Pop c.in-Pop.tid c.in-Pop.kept) (subst (λ (v : AdviserState). Stands v h) (sym c.self-in-Pop.view_is) stands) [] []
    c.args.out.now.items c.args.out.now.items c.args.out.now.items c.args.out.now.items c.push_if-in-Pop.new.out.items
    refl refl (sym (append-nil c.args.out.now.items)) (sym (append-nil c.args.out.now.items)) (sym (append-nil c.args.out.now.items))
    (pushed ∙ ap (λ a. c.args.out.now.items ++ option_to_list a) (c.grown_by-in-Pop.ensures.popped p sees))))) c.push_if-in-Pop.ensures

pub returns-in-Hand-clause-advised : goal.returns-in-Hand-clause-advised
returns-in-Hand-clause-advised g c = on_ok_weaker c.push_if-in-Hand.result (λ pushed h p stands sees.
    let is : c.args.fact ≡ Hand c.in-Hand.tid c.in-Hand.kind c.in-Hand.object = search rules in
    subst (IsTold c.args.self.now.most h c.args.line p c.args.out.now.items c.push_if-in-Hand.new.out.items) (sym is)
    (subst (λ (most : ℕ). IsTold most h c.args.line p c.args.out.now.items c.push_if-in-Hand.new.out.items (Hand c.in-Hand.tid c.in-Hand.kind c.in-Hand.object))
    (ap (λ (v : AdviserState). v.most) c.self-in-Hand.view_is)
    (fact_advised _ h p c.args.line (Hand c.in-Hand.tid c.in-Hand.kind c.in-Hand.object)
    (subst (λ (v : AdviserState). Stands v h) (sym c.self-in-Hand.view_is) stands) [] []
    c.args.out.now.items c.args.out.now.items c.args.out.now.items c.args.out.now.items c.push_if-in-Hand.new.out.items
    refl refl (sym (append-nil c.args.out.now.items)) (sym (append-nil c.args.out.now.items)) (sym (append-nil c.args.out.now.items))
    (pushed ∙ ap (λ a. c.args.out.now.items ++ option_to_list a) (c.grown_of.ensures p c.in-Hand.object sees))))) c.push_if-in-Hand.ensures

pub returns-in-Gone-clause-advised : goal.returns-in-Gone-clause-advised
returns-in-Gone-clause-advised g c = on_ok_weaker c.count_collection.result (λ any h p stands sees.
    let is : c.args.fact ≡ Gone c.in-Gone.field-0 = search rules in
    subst (IsTold c.args.self.now.most h c.args.line p c.args.out.now.items c.args.out.now.items) (sym is)
    ([], ([], [], refl, refl, refl), sym (append-nil c.args.out.now.items))) c.count_collection.ensures.gone

pub returns-in-Gone-clause-stands : goal.returns-in-Gone-clause-stands
returns-in-Gone-clause-stands g c = on_ok_weaker c.count_collection.result (λ stood h p stands sees.
    let is : c.args.fact ≡ Gone c.in-Gone.field-0 = search rules in
    subst (λ x. Stands c.count_collection.new.self (record { line = c.args.line; what = Told x; parts = p } ∷ h)) (sym is)
    (stood h p c.args.line c.in-Gone.field-0 stands)) c.count_collection.ensures.gone

pub returns-in_default-clause-advised : goal.returns-in_default-clause-advised
returns-in_default-clause-advised g c = λ h p stands sees.
    let d = c.in_default in
    let is = quiet c.args.fact d.not-Begin d.not-End d.not-Enter d.not-Leave d.not-Pop d.not-Hand d.not-Lend d.not-Back d.not-Own d.not-Free d.not-Gone in
    is.told c.args.self.now.most h c.args.line p c.args.out.now.items

pub returns-in_default-clause-stands : goal.returns-in_default-clause-stands
returns-in_default-clause-stands g c = λ h p stands sees.
    let d = c.in_default in
    let is = quiet c.args.fact d.not-Begin d.not-End d.not-Enter d.not-Leave d.not-Pop d.not-Hand d.not-Lend d.not-Back d.not-Own d.not-Free d.not-Gone in
    is.stands c.args.self.now h p c.args.line stands
