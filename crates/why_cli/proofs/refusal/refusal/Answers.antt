use Rattle.why_cli.proofs.Weaving.{woven_refusal}
use Rattle.why_cli.proofs.refusal.refusal.Goals as goal

pub returns : goal.returns
returns c = woven_refusal c.args.number c.args.error c.in_ok-text.text.items c.push_notes.new.text.items c.in_ok-text.ensures c.in_ok-push_notes.ensures.notes
