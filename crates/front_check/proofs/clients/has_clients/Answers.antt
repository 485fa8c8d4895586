use Rattle.std.proofs.Common.{◌≡◌, ◌++◌, ap, ◌∙◌}
use Rattle.script_reader.specs.Reading.{Reading}
use Rattle.front_check.proofs.Ahead.{clients_whole}
use Rattle.front_check.proofs.clients.has_clients.Goals as goal

pub returns : goal.returns
returns c =
    let none : c.finish.new.self.passed ≡ 0 =
    ap (λ (r : Reading). r.passed) c.finish.ensures.shut ∙ ap (λ (r : Reading). r.passed) c.in_ok-feed.ensures.ok ∙ ap (λ (r : Reading). r.passed) c.new-reader.ensures.new
    in
    let all : c.finish.new.self.rest ≡ c.args.script.now =
    ap (λ (r : Reading). r.rest) c.finish.ensures.shut ∙ ap (λ (r : Reading). r.rest) c.in_ok-feed.ensures.ok ∙ ap (λ (r : Reading). r.rest ++ c.args.script.now) c.new-reader.ensures.new
    in
    clients_whole c.finds_clients.result c.finish.new.self c.args.script.now none all c.finds_clients.ensures
