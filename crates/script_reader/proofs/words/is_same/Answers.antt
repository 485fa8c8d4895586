use Rattle.script_reader.proofs.Wording.{same_words}
use Rattle.script_reader.proofs.words.is_same.Goals as goal

pub returns : goal.returns
returns c = same_words c.args.word.now c.args.other.now c.loop-at.at c.if-word-other.false c.loop-at-test.false c.loop-at.invariant
