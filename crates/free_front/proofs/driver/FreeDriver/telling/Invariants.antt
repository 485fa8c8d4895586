use Rattle.std.proofs.Common.{◌≡◌, map, take}
use Rattle.free_model.specs.Frees.{endless}
use Rattle.free_front.proofs.driver.FreeDriver.telling.Given as goal

abbrev pub invariant-loop-what : goal.invariant-loop-what
invariant-loop-what l = l.rules ≡ map (endless l.answer) (take l.what-index l.what-items)
