use Rattle.std.proofs.Common.{◌≡◌, Some, ap, subst, ◌∙◌}
use Rattle.std.specs.Cmp.Lexicographic.{slice_cmp}
use Rattle.std.specs.Ordering.{nat_cmp}
use Rattle.std.specs.BTreeMap.{UpdatesBy}
use Rattle.inf_reader.specs.declared.models.Install.{Install}
use Rattle.inf_reader.specs.Found.{section_found}
use Rattle.inf_reader.specs.Models.{install_of, line_with}
use Rattle.inf_reader.proofs.MapLemmas.{kept-put}
use Rattle.inf_reader.proofs.models.first_line_with.Goals as goal

pub returns-clause-line : goal.returns-clause-line
returns-clause-line c =
    let is : c.in_ok-install.install ≡ install_of (section_found c.args.sections.now) c.args.name.items = cc (c.in_ok-install.ensures, c.deref.ensures.value) in
    c.in_ok-line.ensures ∙ ap (line_with c.args.entry.now) is

pub returns-clause-kept : goal.returns-clause-kept
returns-clause-kept c =
    let found = section_found c.args.sections.now in
    let name = c.args.name.items in
    let is : c.in_ok-install.install ≡ install_of found name = cc (c.in_ok-install.ensures, c.deref.ensures.value) in
    let U : Install → Type 0 = λ v. UpdatesBy (λ x y. slice_cmp nat_cmp x.items y.items) (λ k. slice_cmp nat_cmp name k.items) c.args.installs.now.kept c.insert.new.self (Some v) in
    kept-put (install_of found) name c.args.installs.now.kept c.insert.new.self (subst U is c.in_ok-insert.ensures.updates) c.requires
