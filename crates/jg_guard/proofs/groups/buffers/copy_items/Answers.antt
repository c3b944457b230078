use Rattle.std.proofs.Common.{◌∙◌, ap, sym}
use Rattle.jg_rules.specs.Names.{items_of}
use Rattle.jg_rules.proofs.Objects.{items_are}
use Rattle.jg_guard.proofs.Due.{stand_at, can_open}
use Rattle.jg_guard.proofs.Arrays.{is_primitive}
use Rattle.jg_guard.proofs.Buffers.{elements_there, copied_at}
use Rattle.jg_words.specs.declared.object.ItemType.TheVariants.{Of}
use Rattle.jg_table_buffers.specs.declared.family.Family.TheVariants.{Elements}
use Rattle.jg_guard.proofs.groups.buffers.copy_items.Goals as goal

pub items-items-requires-clause-made : goal.items-items-requires-clause-made
items-items-requires-clause-made g c =
    rw (c.the_object-object.ensures c.requires.events (stand_at _ _ _ _ c.requires.events c.view.ensures.setup c.view.ensures.rows c.requires.stand))
    (elements_there _ _ _ c.args.element c.args.array c.requires).made

pub items-items-requires-clause-array : goal.items-items-requires-clause-array
items-items-requires-clause-array g c =
    let there = elements_there _ _ _ c.args.element c.args.array c.requires in
    rw (
      c.the_object-object.ensures c.requires.events (stand_at _ _ _ _ c.requires.events c.view.ensures.setup c.view.ensures.rows c.requires.stand),
      there.class,
    ) (is_primitive c.args.element)

pub open_copy-requires-clause-above : goal.open_copy-requires-clause-above
open_copy-requires-clause-above g c =
    can_open c.requires.events c.args.tables.now.buffers c.args.tid.0 c.next_buf-n.result c.requires.ordinary c.requires.stand.buffers
    (c.next_buf-n.ensures.history c.requires.events.threads c.requires.stand.threads)

pub returns-clause-stands : goal.returns-clause-stands
returns-clause-stands g c = λ p stands.
    let object = c.the_object-object.ensures p (stand_at _ _ _ _ p c.view.ensures.setup c.view.ensures.rows stands) in
    let items = items_are c.args.setup.now _ p c.the_object-object.result.0 c.items-items.result.now stands
    (c.items-items.ensures.items p.heap stands.heap.stands) in
    record {
      threads = stands.threads;
      locals = stands.locals;
      globals = stands.globals;
      buffers = copied_at _ p.buffers c.args.tid.0 _ _ _ _ (Elements (Of c.args.element)) _ _ (c.next_buf-n.ensures.history p.threads stands.threads) object
          (sym items ∙ ap (items_of c.args.setup.now p) object) (c.in_ok-open_copy.ensures.ok p.buffers stands.buffers);
      monitors = stands.monitors;
      heap = stands.heap;
      links = stands.links;
    }
