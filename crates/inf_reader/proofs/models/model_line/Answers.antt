use Rattle.std.proofs.Common.{◌≡◌, ap, subst, ◌∙◌}
use Rattle.std.specs.Result.{IfOk}
use Rattle.inf_reader.specs.declared.parts.ModelLine.{ModelLine}
use Rattle.inf_reader.specs.Entries.{value_at}
use Rattle.inf_reader.specs.Found.{section_found}
use Rattle.inf_reader.specs.Models.{install_name, install_of, line_with, model_line}
use Rattle.inf_reader.proofs.MapLemmas.{kept-found}
use Rattle.inf_reader.proofs.models.model_line.Goals as goal

pub returns-in-Some-clause-line : goal.returns-in-Some-clause-line
unfolding model_line
returns-in-Some-clause-line c =
    let found = section_found c.args.sections.now in
    let named : c.as_slice.result.now ≡ install_name found (value_at c.args.entry.now.values 0) = cc (c.as_slice.ensures.value, c.in_ok-name.ensures, c.value_at.ensures) in
    let kept = kept-found (install_of found) c.as_slice.result.now c.args.installs.now.kept c.in-Some.install.now c.in-Some.ensures.value c.requires in
    let same : line_with c.args.entry.now c.in-Some.install.now ≡ model_line found c.args.entry.now = ap (line_with c.args.entry.now) (kept ∙ ap (install_of found) named) in
    let P : ModelLine → Type 0 = λ m. IfOk c.line_with.result (λ line. line ≡ m) in
    subst P same c.line_with.ensures

pub returns-clause-line : goal.returns-clause-line
unfolding model_line
returns-clause-line c =
    let found = section_found c.args.sections.now in
    let named : c.in_ok-name.name.items ≡ install_name found (value_at c.args.entry.now.values 0) = cc (c.in_ok-name.ensures, c.value_at.ensures) in
    let same : line_with c.args.entry.now (install_of found c.in_ok-name.name.items) ≡ model_line found c.args.entry.now = ap (λ name. line_with c.args.entry.now (install_of found name)) named in
    let P : ModelLine → Type 0 = λ m. IfOk c.first_line_with.result (λ line. line ≡ m) in
    subst P same c.first_line_with.ensures.line
