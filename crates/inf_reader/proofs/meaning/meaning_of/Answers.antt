use Rattle.std.proofs.Common.{◌∙◌, ap, Option, subst}
use Rattle.std.specs.List.{flat_map}
use Rattle.inf_reader.specs.declared.parts.InfError.{InfError}
use Rattle.inf_reader.specs.Found.{text_found, section_found}
use Rattle.inf_reader.specs.Sections.{strings_of}
use Rattle.inf_reader.specs.Meaning.{mark_of, least_of, earlier, date_fault, driver_entry, judged, Gives}
use Rattle.inf_reader.proofs.MeaningLemmas.{meaning_is}
use Rattle.inf_reader.proofs.meaning.meaning_of.Goals as goal

pub returns : goal.returns
returns c =
    let strings = text_found c.in_ok-strings.strings in
    let sections = section_found c.in_ok-index.index.sections in
    let gathered = c.in_ok-index.index.gathered in
    let P : Option InfError → Type 0 = λ f. Gives c.judged.result (judged sections gathered.makers (earlier f (least_of (date_fault (driver_entry sections))))) in
    meaning_is c.args.items.items strings sections gathered.makers c.first_mark-mark.result gathered.fault c.judged.result
    (λ q. c.in_ok-strings.ensures q ∙ ap (λ l. strings_of l q) c.deref.ensures.value)
    (c.first_mark-mark.ensures ∙ ap (λ l. least_of (flat_map mark_of l)) c.deref-2.ensures.value)
    c.in_ok-index.ensures.fault
    c.in_ok-index.ensures.makers
    c.in_ok-index.ensures.sections
    (subst P c.earlier-fault.ensures c.judged.ensures)
