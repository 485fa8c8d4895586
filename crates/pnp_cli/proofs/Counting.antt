-- What was counted of the labels of a run.
use Rattle.std.proofs.Common.{ℕ, ◌+◌, ◌-◌, ◌^◌, ◌≤◌, ◌≡◌, ◌≢◌, min, Bool, true, false, cond, List, [], ◌∷◌, length, Result, Ok, Err, IfOk, Vec, sym, ◌∙◌, ap, ap₂, arith}
use Rattle.std.specs.Prelude.{count_by}
use Rattle.std.specs.Global.{Global}
use Rattle.std.proofs.lemmas.List.Sums.{count_by-le-length, sum_by-cons}
use Rattle.pnp_io.specs.Outside.{raised}
use Rattle.pnp_labels.specs.Texts.{Text}
use Rattle.pnp_labels.specs.declared.label.Label.{Label}
use Rattle.pnp_model.specs.Records.{Settings}
use Rattle.notify_front.specs.Fronts.{Front}
use Rattle.script_reader.specs.Script.{Trace}
use Rattle.pnp_cli.specs.Outputs.{Shows}
use Rattle.pnp_cli.specs.Summaries.{Counted, summary, summary_of}
use Rattle.pnp_cli.specs.Tallies.{has_moved, with_one, with_all}
use Rattle.pnp_cli.specs.declared.tally.Tally.{Tally}

-- the greatest count
abbrev most : ℕ
most = 2 ^ 64 - 1

steps_counted : (t : Tally) (labels : List Label) → t.steps ≤ most → (with_all t labels).steps ≡ min (t.steps + length labels) most
steps_counted t [] small = omega (arith, small)
steps_counted t (label ∷ labels) small = omega (arith, small, steps_counted (with_one t label) labels (omega arith))

moved_counted : (t : Tally) (labels : List Label) → t.moved ≤ most → (with_all t labels).moved ≡ min (t.moved + count_by has_moved labels) most
moved_counted t [] small = omega (arith, small)
moved_counted t (label ∷ labels) small =
    by_test (has_moved label) small (moved_counted (with_one t label) labels)
    ∙ ap (λ (i : ℕ). min (t.moved + i) most) (sym (sum_by-cons (λ l. cond (has_moved l) 1 0) label labels))
  where
    by_test : (b : Bool) → t.moved ≤ most
        → (cond b (raised t.moved) t.moved ≤ most → (with_all (with_one t label) labels).moved ≡ min (cond b (raised t.moved) t.moved + count_by has_moved labels) most)
        → (with_all (with_one t label) labels).moved ≡ min (t.moved + (cond b 1 0 + count_by has_moved labels)) most
    by_test true small more = omega (arith, small, more (omega arith))
    by_test false small more = omega (arith, small, more small)

-- counts that are not at their end are the numbers of the labels
pub all_counted : (settings : Settings) (f : Front) (t : Trace) (tally : Tally) (last : Front) (n : ℕ) (text : Text) → Counted settings f t tally last → tally.steps ≢ most
    → text ≡ summary_of n tally.steps last.state.core.nodes tally.moved → Shows settings f t (summary n) text
all_counted settings f t tally last n text h open_ is =
    let none : Tally = record { steps = 0; moved = 0 } in
    let by_steps : tally.steps ≡ min (0 + length h.labels) most = ap (λ (x : Tally). x.steps) h.counted ∙ steps_counted none h.labels (omega arith) in
    let by_moved : tally.moved ≡ min (0 + count_by has_moved h.labels) most = ap (λ (x : Tally). x.moved) h.counted ∙ moved_counted none h.labels (omega arith) in
    let few : count_by has_moved h.labels ≤ length h.labels = count_by-le-length has_moved h.labels in
    let steps : tally.steps ≡ length h.labels = omega (arith, by_steps, open_) in
    let moved : tally.moved ≡ count_by has_moved h.labels = omega (arith, by_steps, by_moved, open_, few) in
    (h.labels, last, h.plays, is ∙ ap₂ (λ (i j : ℕ). summary_of n i last.state.core.nodes j) steps moved)

pub all_counted_if : {E : Type 0} (settings : Settings) (f : Front) (t : Trace) (tally : Tally) (last : Front) (n : ℕ) (r : Result (Vec ℕ Global) E) → Counted settings f t tally last → tally.steps ≢ most
    → IfOk r (λ text. text.items ≡ summary_of n tally.steps last.state.core.nodes tally.moved) → IfOk r (λ text. Shows settings f t (summary n) text.items)
all_counted_if settings f t tally last n (Ok text) h open_ is = all_counted settings f t tally last n text.items h open_ is
all_counted_if settings f t tally last n (Err error) h open_ is = tt
