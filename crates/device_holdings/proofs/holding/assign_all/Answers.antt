use Rattle.std.proofs.Common.{◌≡◌, ℕ, suc, length-append, ◌∙◌, [], ◌∷◌, List, length, take, drop, map, slice_get, IsSome, ap, sym, subst, arith}
use Rattle.std.proofs.Math.ListN.{drop_of_length-le}
use Rattle.std.proofs.lemmas.List.{take_all}
use Rattle.pnp_model.specs.Records.{Node}
use Rattle.resource_reqs.specs.Resources.{Res}
use Rattle.devnode_tree.specs.Trees.{IsTree, Tree}
use Rattle.device_holdings.specs.Giving.{given, with_part}
use Rattle.device_holdings.specs.Mirrors.{HasRoom}
use Rattle.device_holdings.proofs.Apart.{mirrors_same}
use Rattle.device_holdings.proofs.Committing.{room_next, room_first, last_part, none_yet, given_part}
use Rattle.device_holdings.proofs.holding.assign_all.Goals as goal

pub parts-init : goal.parts-init
parts-init c =
    let parts = c.in_ok-parts.parts.items in
    let plan = c.args.plan.now in
    let is = c.in_ok-parts.ensures in
    let long : length parts ≡ length plan = ap length is in
    record {
      left = is ∙ sym (take_all (length parts) plan (omega arith));
      so_far = ap (λ (ns : List Node). record { nodes = ns; next = c.args.tree.now.next }) (none_yet (drop (length parts) c.args.serials.now) (drop (length parts) plan) c.args.tree.now.nodes (drop_of_length-le plan (omega arith)));
      mirrors = λ reserved m. mirrors_same reserved c.args.tree.now.nodes c.args.arbiters.now c.room_for.new.arbiters c.in_ok-room_for.ensures.same m;
      room = subst (HasRoom c.room_for.new.arbiters) c.deref.ensures.value c.in_ok-room_for.ensures.room;
    }

pub give-requires-clause-room : goal.give-requires-clause-room
give-requires-clause-room c =
    let xs = c.pop.new.self.items in
    let h = c.in-Some.holds in
    room_first c.parts.arbiters h xs (room_next c.parts.arbiters xs h (subst (HasRoom c.parts.arbiters) c.in-Some.ensures.items c.parts.invariant.room))

pub parts-preserved : goal.parts-preserved
parts-preserved c =
    let xs = c.pop.new.self.items in
    let h = c.in-Some.holds in
    let plan = c.args.plan.now in
    let serials = c.args.serials.now in
    let before = c.args.tree.now.nodes in
    let pop = c.in-Some.ensures.items in
    let last = last_part xs h plan (sym pop ∙ (c.parts.invariant.left ∙ ap (λ (l : List (List Res)). take (length l) plan) pop)) in
    let place : c.len.result ≡ length xs = omega (arith, c.pop.new.self.ok.0, c.len.ensures) in
    let count : length c.parts.parts.items ≡ suc (length xs) = omega (arith, ap length pop, length-append xs (h ∷ [])) in
    let so_far : c.parts.tree.nodes ≡ map (with_part (drop (suc (length xs)) serials) (drop (suc (length xs)) plan)) before =
    ap (λ (t : Tree). t.nodes) c.parts.invariant.so_far ∙ ap (λ (n : ℕ). map (with_part (drop n serials) (drop n plan)) before) count in
    let next : c.parts.tree.next ≡ c.args.tree.now.next = ap (λ (t : Tree). t.next) c.parts.invariant.so_far in
    let room = room_next c.parts.arbiters xs h (subst (HasRoom c.parts.arbiters) pop c.parts.invariant.room) in
    let tree = subst (λ (n : ℕ). IsSome (slice_get serials n) → IsTree c.parts.tree) place c.give.ensures.tree in
    record {
      left = last.0;
      so_far =
          c.give.ensures.given
          ∙ (ap (λ (n : ℕ). given (slice_get serials n) h c.parts.tree) place
          ∙ (given_part serials plan (length xs) h before c.parts.tree so_far last.1 tree
          ∙ ap (λ (n : ℕ). record { nodes = map (with_part (drop (length xs) serials) (drop (length xs) plan)) before; next = n }) next));
      mirrors = λ reserved m. c.give.ensures.mirrors reserved (c.parts.invariant.mirrors reserved m);
      room = c.give.ensures.room xs room;
    }
