use Rattle.std.proofs.Common.{refl, reverse, map}
use Rattle.script_family.specs.Families.{Says, Followed}
use Rattle.script_family.specs.Drafts.{part_at, block_of}
use Rattle.script_family.proofs.Drafting.{said_stands, said_few, went}
use Rattle.script_family.proofs.draft.Draft.say.Goals as goal

pub push_followed-requires-clause-few : goal.push_followed-requires-clause-few
push_followed-requires-clause-few c =
    said_few c.args.self.now.parts.families c.args.self.now.current c.len-said.result c.args.at (reverse c.args.self.now.blocks.items) c.push_line.new.self.families
    c.requires.good c.len-said.ensures c.in_ok-push_line.ensures c.requires.few

pub returns : goal.returns
returns c =
    let s = said_stands c.args.self.now.parts.families c.args.self.now.current c.len-said.result c.len-current.result c.args.at
    (reverse c.args.self.now.blocks.items) c.push_line.new.self.families c.push_followed.new.self.families
    c.requires.good c.len-said.ensures c.in_ok-push_line.ensures c.len-current.ensures c.in_ok-push_followed.ensures in
    went (record { parts = c.push_followed.new.self; current = c.len-current.result; blocks = c.args.self.now.blocks }) (reverse c.args.self.now.blocks.items)
    (record {
      now = Followed (part_at c.args.self.now.parts.families c.args.self.now.current) (Says c.args.at);
      blocks = map (block_of c.args.self.now.parts.families) (reverse c.args.self.now.blocks.items);
    }) refl s.0 s.1
