use Rattle.std.proofs.Common.{ap}
use Rattle.ending_tally.specs.Steps.{told}
use Rattle.ending_tally.proofs.Maps.{put_more, same_key}
use Rattle.ending_tally.proofs.tally.Tally.add_ending.Goals as goal

pub with_more-requires : goal.with_more-requires
with_more-requires c = same_key c.args.kind.now c.remove_entry-found.result c.remove_entry-found.ensures.same_key

pub returns : goal.returns
returns c = ap (λ e. record (told c.args.self.now) { endings = e })
    (put_more c.args.kind.now c.args.text.now c.args.mark c.args.self.now.endings c.remove_entry-found.new.self c.insert.new.self c.in_ok-key.key c.in_ok-key.ending c.remove_entry-found.result
    c.remove_entry-found.ensures.updates c.in_ok-insert.ensures.updates c.in_ok-key.ensures.key c.remove_entry-found.ensures.value c.in_ok-key.ensures.ending)
