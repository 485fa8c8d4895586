use Rattle.std.proofs.Common.{[]}
use Rattle.view_page.specs.Pages.{IsContent}
use Rattle.view_page.proofs.page.Page.new.Goals as goal

pub invariant_of-result : goal.invariant_of-result
invariant_of-result c = rw (c.new.ensures.items, c.new-2.ensures.items) (record { inner = []; content = IsContent.nothing; all = c.in_ok-text.ensures.items })
