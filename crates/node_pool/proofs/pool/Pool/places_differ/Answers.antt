use Rattle.std.proofs.Common.{◌≡◌, ◌+◌, ◌<◌, ◌^◌, length, ap, sym, subst}
use Rattle.node_pool.specs.Chains.{chain}
use Rattle.node_pool.proofs.Reading.{chain_within}
use Rattle.node_pool.proofs.Standing.{apart_in, few_in}
use Rattle.node_pool.proofs.pool.Pool.places_differ.Goals as goal

pub returns-clause-apart : goal.returns-clause-apart
returns-clause-apart g c =
    let within = chain_within c.self.inside.next.items c.self.inside.values.items c.self.inside.chains c.args.self.now (ap (λ p. p.chains) c.self.view_is) c.args.chain c.requires in
    apart_in c.self.inside.next.items c.self.inside.prev.items c.self.inside.values.items c.self.inside.chains c.self.inside.spare c.self.invariant c.args.self.now (ap (λ p. p.chains) c.self.view_is) c.args.chain within

pub returns-clause-few : goal.returns-clause-few
returns-clause-few g c =
    let within = chain_within c.self.inside.next.items c.self.inside.values.items c.self.inside.chains c.args.self.now (ap (λ p. p.chains) c.self.view_is) c.args.chain c.requires in
    subst (λ n. length (chain c.args.self.now c.args.chain) + n < 2 ^ 32) (ap (λ p. p.spare) c.self.view_is)
    (few_in c.self.inside.next.items c.self.inside.prev.items c.self.inside.values.items c.self.inside.chains c.self.inside.spare c.self.invariant c.args.self.now (ap (λ p. p.chains) c.self.view_is) c.args.chain within)
