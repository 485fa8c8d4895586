use Rattle.std.proofs.Common.{rules, not}
use Rattle.std.proofs.lemmas.Fn.{filter_same}
use Rattle.live_model.specs.Trails.{is_at}
use Rattle.live_run.specs.Views.{attached_of}
use Rattle.live_run.proofs.trail.detach.Goals as goal

pub returns : goal.returns
returns c = filter_same _ (λ a. not (is_at c.args.path.now (attached_of a))) _ (λ x b f' k. search rules) _ _ c.retain.ensures.filtered
