use Rattle.std.proofs.Common.{◌≡◌, ◌++◌, [], ◌∷◌, List, ℕ, subst, sym}
use Rattle.std.specs.Option.{option_map}
use Rattle.std.specs.Result.{OnOk}
use Rattle.inf_reader.specs.Found.{text_found}
use Rattle.inf_reader.specs.Entries.{part_text, values_of}
use Rattle.inf_reader.proofs.Scans.{values_of-cut, values_of-no_cut, onto_end}
use Rattle.inf_reader.proofs.entries.push_values.Goals as goal

pub loop-part-preserved : goal.loop-part-preserved
loop-part-preserved c =
    let strings = option_map (λ s. text_found s.now) c.args.strings in
    let all = c.args.values.now ++ values_of strings c.args.symbols.now in
    let more = values_of-cut strings c.loop-part.rest.now (c.in-Some.part.now, c.in-Some.after.now) (sym c.in-Some.ensures.parts) in
    let put : c.push.new.self ≡ c.loop-part.values ++ part_text strings c.in-Some.part.now ∷ [] = cc (c.in_ok-push.ensures, c.in_ok-part_text.ensures) in
    rw put (onto_end c.loop-part.values (values_of strings c.loop-part.rest.now) all (values_of strings c.in-Some.after.now) (part_text strings c.in-Some.part.now) c.loop-part.invariant more)

pub returns : goal.returns
returns c =
    let strings = option_map (λ s. text_found s.now) c.args.strings in
    let all = c.args.values.now ++ values_of strings c.args.symbols.now in
    let last = values_of-no_cut strings c.loop-part.rest.now (sym c.in_default.ensures.parts) in
    let put : c.loop-part.values ++ c.in_ok-part_text-2.field-0 ∷ [] ≡ all = cc (c.in_ok-part_text-2.ensures, last, c.loop-part.invariant) in
    let P : List (List ℕ) → Type 0 = λ l. OnOk c.push-2.result (c.push-2.new.self ≡ l) in
    subst P put c.push-2.ensures
