use Rattle.std.proofs.Common.{◌≡◌, ◌<◌, ◌+◌, ◌++◌, ◌∷◌, ℕ, List, [], ◌∙◌, length, map, get_or, sym, ap, subst, arith, Bor, unwrap_or}
use Rattle.std.proofs.lemmas.List.{get_or-map, length-map}
use Rattle.explore_report.specs.Fronts.{edges_of, Growing, Found, Puts}
use Rattle.explore_report.proofs.Tries.{growing_more, growing_ends, longest_found}
use Rattle.explore_report.proofs.fronts.Fronts.take.Goals as goal

pub loop-place-preserved : goal.loop-place-preserved
loop-place-preserved c = λ scripts few old.
    let lines = c.args.lines.now in
    let E = edges_of c.loop-place.self.longer in
    let new = edges_of c.add.new.self.longer in
    let first = c.loop-place.self.first.items in
    let script = map (λ (line : Bor (List ℕ)). line.now) lines in
    let size = length-map lines (λ (line : Bor (List ℕ)). line.now) in
    let within : c.loop-place.place < length script = omega (arith, c.loop-place-test.true, size) in
    let put : Puts E new c.loop-place.front (get_or script c.loop-place.place []) (length first) =
    subst (λ l. Puts E new c.loop-place.front l (length first)) (sym (get_or-map (λ (line : Bor (List ℕ)). line.now) lines c.loop-place.place _ [] (omega (arith, c.loop-place-test.true)))) c.in_ok-front.ensures.longer in
    subst (λ f. Growing new c.add.new.self.first.items scripts script f (c.loop-place.place + 1)) (sym c.in_ok-front.ensures.number)
    (subst (λ fs. Growing new fs scripts script (length first) (c.loop-place.place + 1)) (ap (λ k. first ++ k ∷ []) few ∙ sym c.in_ok-front.ensures.first)
    (growing_more E new first scripts script c.loop-place.front c.loop-place.place within put (c.loop-place.invariant scripts few old)))

pub returns : goal.returns
returns c =
    let lines = c.args.lines.now in
    let script = map (λ (line : Bor (List ℕ)). line.now) lines in
    let size = length-map lines (λ (line : Bor (List ℕ)). line.now) in
    let other : c.unwrap_or-other.result ≡ get_or c.args.self.now.first.items c.in_ok-longest.longest 0 =
    c.unwrap_or-other.ensures ∙ ap (λ o. unwrap_or o 0) c.copied.ensures ∙ c.get.ensures.lookup.4 (omega arith) 0 ∙ ap (λ xs. get_or xs c.in_ok-longest.longest 0) c.deref.ensures.value in
    record {
      fronts = λ scripts few old.
          growing_ends (edges_of c.loop-place.self.longer) c.loop-place.self.first.items scripts script c.loop-place.front c.loop-place.place (omega (arith, c.loop-place-test.false, size)) (c.loop-place.invariant scripts few old);
      found = λ scripts some old.
          subst (λ p. Found scripts script p c.in_ok-longest.together) (sym other)
          (longest_found (edges_of c.args.self.now.longer) c.args.self.now.first.items scripts script c.in_ok-longest.longest c.in_ok-longest.together some old c.in_ok-longest.ensures);
    }
