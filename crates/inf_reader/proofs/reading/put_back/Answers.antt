use Rattle.std.proofs.Common.{◌≡◌, Option, subst, sym}
use Rattle.inf_reader.specs.declared.reading.Current.{Current}
use Rattle.inf_reader.specs.Maps.{by_key}
use Rattle.inf_reader.specs.Reading.{seen_by}
use Rattle.inf_reader.proofs.MapLemmas.{by_key-put}
use Rattle.inf_reader.proofs.reading.put_back.Goals as goal

pub returns-in_ok-insert-in-Some : goal.returns-in_ok-insert-in-Some
returns-in_ok-insert-in-Some c = λ q.
    let P : Option Current → Type 0 = λ o. by_key c.insert.new.self q ≡ seen_by o (by_key c.args.sections.now) q in
    subst P (sym c.in-Some.is) (by_key-put c.in-Some.current.name.items c.args.sections.now c.insert.new.self c.in-Some.current.section c.in_ok-insert-in-Some.ensures.updates q)
