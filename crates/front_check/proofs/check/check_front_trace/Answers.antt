use Rattle.std.proofs.Common.{◌≡◌, ◌++◌, ap, ◌∙◌}
use Rattle.script_reader.specs.Reading.{Reading}
use Rattle.front_check.proofs.Turning.{whole}
use Rattle.front_check.proofs.check.check_front_trace.Goals as goal

pub returns : goal.returns
returns c =
    let none : c.finish.new.self.passed ≡ 0 =
    ap (λ (r : Reading). r.passed) c.finish.ensures.shut ∙ ap (λ (r : Reading). r.passed) c.in_ok-feed.ensures.ok ∙ ap (λ (r : Reading). r.passed) c.new-reader.ensures.new
    in
    let all : c.finish.new.self.rest ≡ c.args.script.now =
    ap (λ (r : Reading). r.rest) c.finish.ensures.shut ∙ ap (λ (r : Reading). r.rest) c.in_ok-feed.ensures.ok ∙ ap (λ (r : Reading). r.rest ++ c.args.script.now) c.new-reader.ensures.new
    in
    whole c.check_lines.result c.in_ok-run.run' c.finish.new.self c.args.infs.items c.args.budget c.args.kinds.now c.args.script.now c.args.trace.now c.in_ok-run.ensures none all c.check_lines.ensures
