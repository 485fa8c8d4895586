use Rattle.std.proofs.Common.{ℕ, Vec, Global, map, true, subst}
use Rattle.pnp_labels.specs.Texts.{Text}
use Rattle.start_sequence.specs.Begins.{settings_of}
use Rattle.script_reader.specs.Script as scripts
use Rattle.front_check.specs.FrontChecks.{IsChecked, beginning}
use Rattle.trace_check.specs.Verdicts.{verdict}
use Rattle.trace_check.specs.declared.check.Checked.{Checked}
use Rattle.front_hint.proofs.Walking.{seen_yes, seen_no}
use Rattle.front_hint.proofs.allowed.look_at_front.Goals as goal

abbrev text_of : Vec ℕ Global → Text
text_of line = line.items

pub returns-in-Yes : goal.returns-in-Yes
returns-in-Yes c =
    seen_yes c.args.infs.now c.args.budget (beginning c.args.kinds.now (scripts.trace true 0 c.args.script.now)) c.args.trace.now c.in_ok-read.read.items c.in_ok-read.ensures.read
    (subst (λ (k : Checked). IsChecked (settings_of c.in_ok-read.read.items c.args.budget) (beginning c.args.kinds.now (scripts.trace true 0 c.args.script.now)) c.args.trace.now (verdict k)) c.in-Yes.is
    c.in_ok-check_front_trace.ensures)

pub returns-in_ok-allowed-in-No : goal.returns-in_ok-allowed-in-No
returns-in_ok-allowed-in-No c =
    seen_no c.args.infs.now c.args.budget (beginning c.args.kinds.now (scripts.trace true 0 c.args.script.now)) c.args.trace.now c.in_ok-read.read.items c.in-No.line c.saturating_sub-before.result
    (map (λ l. text_of l) c.in_ok-allowed-in-No.allowed.items) c.in_ok-read.ensures.read
    (subst (λ (k : Checked). IsChecked (settings_of c.in_ok-read.read.items c.args.budget) (beginning c.args.kinds.now (scripts.trace true 0 c.args.script.now)) c.args.trace.now (verdict k)) c.in-No.is
    c.in_ok-check_front_trace.ensures)
    c.saturating_sub-before.ensures c.in_ok-allowed-in-No.ensures
