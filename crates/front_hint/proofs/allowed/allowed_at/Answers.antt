use Rattle.std.proofs.Common.{ℕ, ◌≡◌, ◌++◌, List, Option, Vec, Global, map, option_map, true, ap, ◌∙◌}
use Rattle.pnp_labels.specs.Texts.{Text}
use Rattle.script_reader.specs.Script as scripts
use Rattle.front_check.specs.FrontChecks.{beginning}
use Rattle.trace_hint.specs.Hints.{list_of}
use Rattle.front_hint.proofs.Walking.{allowed_is}
use Rattle.front_hint.proofs.allowed.allowed_at.Goals as goal

abbrev text_of : Vec ℕ Global → Text
text_of line = line.items

abbrev line_of : Option (Vec ℕ Global) → Option Text
line_of line = option_map (λ l. text_of l) line

abbrev lines_of : List (Vec ℕ Global) → List Text
lines_of lines = map (λ l. text_of l) lines

pub returns : goal.returns
returns c =
    let first : lines_of c.add_line.new.lines.items ≡ list_of (line_of c.in_ok-ok.ok) =
    c.in_ok-add_line.ensures ∙ ap (λ (t : List (Vec ℕ Global)). lines_of t ++ list_of (line_of c.in_ok-ok.ok)) c.new-lines.ensures.items
    in
    let second : lines_of c.add_line-2.new.lines.items ≡ list_of (line_of c.in_ok-ok.ok) ++ list_of (line_of c.in_ok-fail.fail) =
    c.in_ok-add_line-2.ensures ∙ ap (λ (t : List Text). t ++ list_of (line_of c.in_ok-fail.fail)) first
    in
    allowed_is c.args.infs.now c.args.budget (beginning c.args.kinds.now (scripts.trace true 0 c.args.script.now)) c.args.trace.now c.args.before (line_of c.in_ok-ok.ok) (line_of c.in_ok-fail.fail)
    (line_of c.in_ok-pend.pend) (lines_of c.add_line-3.new.lines.items) c.in_ok-ok.ensures c.in_ok-fail.ensures c.in_ok-pend.ensures
    (c.in_ok-add_line-3.ensures ∙ ap (λ (t : List Text). t ++ list_of (line_of c.in_ok-pend.pend)) second)
