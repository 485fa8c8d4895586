use Rattle.std.proofs.Common.{◌≡◌, List, ◌≤◌, ◌+◌, ◌∙◌, ap, sym, arith}
use Rattle.std.specs.Ordering.{nat_cmp}
use Rattle.std.specs.BTreeMap.{insert_entry}
use Rattle.std.proofs.lemmas.Map.Views.{All-values-insert_entry}
use Rattle.pnp_model.specs.Records.{Handle}
use Rattle.pnp_model.specs.Handles.{opened}
use Rattle.devnode_tree.specs.Counts.{handles_of, count_of}
use Rattle.devnode_tree.proofs.Counting.{one_opened}
use Rattle.devnode_tree.proofs.handles.Handles.add_one.Goals as goal

pub invariant_of-self-2 : goal.invariant_of-self-2
invariant_of-self-2 c =
    rw c.in_ok-insert.ensures.entries (All-values-insert_entry nat_cmp c.args.serial c.in-Some.count (λ n. 1 ≤ n) c.self.inside.counts.entries c.self.invariant (omega (arith, c.in-Some.ensures)))

pub returns-clause-opened : goal.returns-clause-opened
returns-clause-opened c =
    let k = c.args.serial in
    let es = c.self.inside.counts.entries in
    let more : c.in-Some.count ≡ count_of (handles_of es) k + 1 =
    c.in-Some.ensures.1 ∙ ap (λ n. n + 1) (c.count.ensures.count ∙ sym (ap (λ (hs : List Handle). count_of hs k) c.self.view_is)) in
    ap handles_of c.in_ok-insert.ensures.entries
    ∙ (ap (λ n. handles_of (insert_entry nat_cmp es k n)) more ∙ (one_opened k es c.in_ok-insert.ensures.was_ordered ∙ ap (opened k) c.self.view_is))
