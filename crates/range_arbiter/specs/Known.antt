-- What is known of some pairs by two spans. No public contract cites this.
use Rattle.std.specs.Prelude.{true, false, List, Option, IfSome, IfNone}
use Rattle.range_arbiter.specs.Pairs.{Pair}
use Rattle.range_arbiter.specs.Spans.{Covers, NoneShares}
use Rattle.range_arbiter.specs.declared.span.Span.{Span}
use Rattle.range_arbiter.specs.declared.known.Known.{Known}

-- the span is right of those that do not share, and where there is none, no pair shares
pub record KnowsUnshared (pairs : List Pair) (s : Option Span) : Type 0 where
  pub some : IfSome s (λ s. Covers true pairs s)
  pub none : IfNone s (NoneShares pairs)

pub record Knows (pairs : List Pair) (k : Known) : Type 0 where
  pub all : Covers false pairs k.all
  pub unshared : KnowsUnshared pairs k.unshared
