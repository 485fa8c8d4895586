use Rattle.std.proofs.Common.{sym, ◌∙◌}
use Rattle.script_reader.specs.Words.{is_name}
use Rattle.live_run.proofs.Replying.{all_seen}
use Rattle.live_run.proofs.answers.are_tags.Goals as goal

pub returns : goal.returns
returns c = c.are_names.ensures ∙ sym (all_seen (λ w. w.now) is_name c.args.words.now)
