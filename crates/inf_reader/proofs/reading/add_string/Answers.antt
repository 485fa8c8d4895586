use Rattle.std.proofs.Common.{◌≡◌, List, ℕ, cond, false, Some, None, subst, sym, ap, ◌∙◌}
use Rattle.std.specs.Option.{is_some}
use Rattle.std.specs.Str.{bytes_eq}
use Rattle.inf_reader.specs.Maps.{by_key}
use Rattle.inf_reader.specs.Numbers.{or_else}
use Rattle.inf_reader.specs.Sections.{string_key, string_value}
use Rattle.inf_reader.proofs.MapLemmas.{texts-put, none_if}
use Rattle.inf_reader.proofs.reading.add_string.Goals as goal

pub returns : goal.returns
returns c = λ q.
    let symbols = c.args.symbols.now in
    let key = c.in_ok-key.key.items in
    let made = c.in_ok-string_value.field-0 in
    let old = by_key c.args.texts.now in
    let new = by_key c.insert.new.self in
    let A : List ℕ → Type 0 = λ t. is_some (old t) ≡ false in
    let absent = none_if (old key) (subst A c.as_slice.ensures.value (sym c.contains_key.ensures ∙ c.if-contains_key.false)) in
    let key_side = ap (λ p. p.0) c.sides.ensures in
    let list_side = ap (λ p. p.1) c.sides.ensures in
    let is_key : key ≡ string_key symbols = cc (c.in_ok-key.ensures, key_side) in
    let is_made : made ≡ string_value symbols = cc (c.in_ok-string_value.ensures, list_side) in
    let K : List ℕ → Type 0 = λ k. new q ≡ or_else (old q) (cond (bytes_eq q k) (Some made) None) in
    let V : List ℕ → Type 0 = λ v. new q ≡ or_else (old q) (cond (bytes_eq q (string_key symbols)) (Some v) None) in
    subst V is_made (subst K is_key (texts-put key c.args.texts.now c.insert.new.self (Some made) absent c.in_ok-insert.ensures.updates q))
