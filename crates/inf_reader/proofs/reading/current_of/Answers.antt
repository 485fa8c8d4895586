use Rattle.std.proofs.Common.{◌≡◌, List, ℕ, cond, Some, subst}
use Rattle.std.specs.Str.{bytes_eq}
use Rattle.inf_reader.specs.Maps.{by_key}
use Rattle.inf_reader.specs.Reading.{after_header}
use Rattle.inf_reader.proofs.MapLemmas.{section-taken}
use Rattle.inf_reader.proofs.reading.current_of.Goals as goal

pub returns-in-Some-clause-seen : goal.returns-in-Some-clause-seen
returns-in-Some-clause-seen c = λ q.
    let part = c.as_slice.result.now in
    let new = by_key c.remove.new.self q in
    let old = by_key c.args.sections.now q in
    let found = Some c.in-Some.section in
    let kept : part ≡ c.in_ok-name.name.items = c.as_slice.ensures.value in
    let given : part ≡ c.args.name.now = cc (c.in_ok-name.ensures.items, c.bytes.ensures) in
    let P : List ℕ → Type 0 = λ t. cond (bytes_eq q t) found new ≡ after_header (bytes_eq q part) old in
    let Q : List ℕ → Type 0 = λ t. cond (bytes_eq q c.in_ok-name.name.items) found new ≡ after_header (bytes_eq q t) old in
    subst Q given (subst P kept (section-taken part c.args.sections.now c.remove.new.self c.in-Some.section c.in-Some.ensures.value c.in-Some.ensures.updates q))
