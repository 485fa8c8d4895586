use Rattle.std.proofs.Common.{◌≡◌, ◌<◌, ◌≤◌, ◌∙◌, sym, ap₂, subst, length, get_or, ℕ, List, []}
use Rattle.std.proofs.lemmas.Result.{IfOk-weaker}
use Rattle.script_family.specs.Families.{Family, scripts}
use Rattle.script_family.specs.Counts.{capped}
use Rattle.script_family.specs.Texts.{text_of}
use Rattle.script_family.specs.Reads.{Told}
use Rattle.script_family.specs.Steps.{shape}
use Rattle.script_family.proofs.Totals.{below_total, script_text, script_short}
use Rattle.script_family.proofs.family.ScriptFamily.script.Goals as goal

pub lines_of-lines-requires-clause-below : goal.lines_of-lines-requires-clause-below
lines_of-lines-requires-clause-below c =
    below_total (shape c.self.inside.parts c.self.inside.root) c.args.number
    (subst (λ (t : Told). c.args.number < capped (length (scripts t.family))) (sym c.self.view_is) c.requires)

pub returns-clause-text : goal.returns-clause-text
returns-clause-text c =
    let text : List ℕ = c.self.inside.text.items in
    let f : Family = shape c.self.inside.parts c.self.inside.root in
    let same : text_of c.deref.result.now c.deref-2.result.now ≡ text_of text c.in_ok-places.places.items = ap₂ text_of c.deref.ensures.value c.deref-2.ensures.value in
    let is : text_of text c.in_ok-places.places.items ≡ text_of c.args.self.now.text (get_or (scripts c.args.self.now.family) c.args.number []) =
    script_text text f c.lines_of-lines.result.0 c.lines_of-lines.result.1 c.args.number c.in_ok-places.places.items c.args.self.now
    c.lines_of-lines.ensures.inside c.lines_of-lines.ensures.number c.lines_of-lines.ensures.one c.in_ok-places.ensures c.self.view_is in
    IfOk-weaker c.text_of.result (λ t. t.items ≡ text_of c.deref.result.now c.deref-2.result.now)
    (λ t. t.items ≡ text_of c.args.self.now.text (get_or (scripts c.args.self.now.family) c.args.number [])) (λ t h. h ∙ same ∙ is) c.text_of.ensures

pub returns-clause-short : goal.returns-clause-short
returns-clause-short c =
    let text : List ℕ = c.self.inside.text.items in
    let f : Family = shape c.self.inside.parts c.self.inside.root in
    let same : text_of c.deref.result.now c.deref-2.result.now ≡ text_of text c.in_ok-places.places.items = ap₂ text_of c.deref.ensures.value c.deref-2.ensures.value in
    let few : length (text_of text c.in_ok-places.places.items) ≤ 16777216 =
    script_short text f c.lines_of-lines.result.0 c.lines_of-lines.result.1 c.in_ok-places.places.items c.lines_of-lines.ensures.one c.in_ok-places.ensures
    c.self.invariant.bytes in
    IfOk-weaker c.text_of.result (λ t. t.items ≡ text_of c.deref.result.now c.deref-2.result.now) (λ t. length t.items ≤ 16777216)
    (λ t h. subst (λ v. length v ≤ 16777216) (sym (h ∙ same)) few) c.text_of.ensures
