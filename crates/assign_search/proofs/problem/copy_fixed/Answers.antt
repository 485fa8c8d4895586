use Rattle.std.proofs.Common.{◌≡◌, ◌+◌, ◌∷◌, ◌++◌, length, take, slice_get, Some, refl, sym, ◌∙◌, subst, arith}
use Rattle.std.specs.Prelude.{IsPermutation}
use Rattle.std.proofs.lemmas.Option.{slice_get_read}
use Rattle.trial_journal.specs.ByKind.{all_kinds, all_pairs, lists_of}
use Rattle.assign_search.specs.Fixed.{fixed_pairs}
use Rattle.assign_search.proofs.SameHeld.{put_permutation}
use Rattle.assign_search.proofs.Fixing.{copied_more, copied_less, copied_few}
use Rattle.assign_search.proofs.problem.copy_fixed.Goals as goal
use Rattle.assign_search.proofs.problem.copy_fixed.Goals.{then-not-owns_moving+in_ok-add, else-not-owns_moving}

pub add-requires : goal.add-requires
add-requires c =
    let within = c.pairs-test.true in
    let few = copied_few (all_pairs c.args.board.now) c.args.pairs.now c.args.serials.now c.pairs.pair-index (all_pairs c.pairs.board) c.pairs.invariant in
    let room = c.requires.few in
    omega arith

pub pairs-preserved : goal.pairs-preserved
pairs-preserved c =
    let read : slice_get c.args.pairs.now c.pairs.pair-index ≡ Some c.pair-item.result =
    slice_get_read c.args.pairs.now (length c.args.pairs.now) c.pairs.pair-index c.pair-item.result refl c.pairs-test.true c.pair-item.is in
    elim c.if-not-owns_moving.branch [
      | then-not-owns_moving+in_ok-add w ↦
          subst (λ b. IsPermutation (all_pairs c.args.board.now ++ fixed_pairs c.args.serials.now (take (c.pairs.pair-index + 1) c.args.pairs.now)) (all_pairs b)) (sym w.board-is)
          (copied_more (all_pairs c.args.board.now) c.args.pairs.now c.args.serials.now c.pairs.pair-index c.pair-item.result (all_pairs c.pairs.board) (all_pairs w.add.new.board)
          read (sym c.owns_moving.ensures ∙ w.if-not-owns_moving.true)
          (subst (λ l. IsPermutation (c.pair-item.result ∷ all_pairs c.pairs.board) (all_kinds l)) (sym w.in_ok-add.ensures.put)
          (put_permutation (lists_of c.pairs.board) c.pair-item.result.1.kind c.pair-item.result))
          c.pairs.invariant)
      | else-not-owns_moving w ↦
          subst (λ b. IsPermutation (all_pairs c.args.board.now ++ fixed_pairs c.args.serials.now (take (c.pairs.pair-index + 1) c.args.pairs.now)) (all_pairs b)) (sym w.board-is)
          (copied_less (all_pairs c.args.board.now) c.args.pairs.now c.args.serials.now c.pairs.pair-index c.pair-item.result (all_pairs c.pairs.board)
          read (sym c.owns_moving.ensures ∙ w.if-not-owns_moving.false) c.pairs.invariant)
    ]

pub returns-clause-few : goal.returns-clause-few
returns-clause-few c =
    let end = c.pairs.auto.pair-index-end in
    let few = copied_few (all_pairs c.args.board.now) c.args.pairs.now c.args.serials.now c.pairs.pair-index (all_pairs c.pairs.board) c.pairs.invariant in
    omega arith
