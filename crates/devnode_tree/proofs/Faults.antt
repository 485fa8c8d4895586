-- Which error a join answers.
use Rattle.std.proofs.Common.{◌≡◌, ◌↔◌, ap, is_some, ℕ, Bool, true, false, Option, Some, None, IsSome, IsTrue, Result, Ok, Err, refl}
use Rattle.std.specs.Result.{IsErrOf}
use Rattle.pnp_model.specs.Records.{Node}
use Rattle.devnode_tree.specs.declared.error.JoinError.{JoinError}
use Rattle.devnode_tree.specs.declared.error.JoinError.TheVariants.{NoParent, SamePath, WantOfMemory}

-- the errors that come exactly where there is no parent, and where there is one and the path is there
pub record Verdict (r : Result ℕ JoinError) (parent : Option Node) (path : Bool) : Type 0 where
  pub no_parent : IsErrOf r NoParent ↔ (parent ≡ None)
  pub same_path : IsErrOf r SamePath ↔ (IsSome parent × IsTrue path)

none_of : (o : Option Node) → is_some o ≡ false → o ≡ None
none_of None h = refl
none_of (Some n) h = absurd (cc)

module _ (parent : Option Node) (path : Bool) where
  pub without_parent : is_some parent ≡ false → Verdict (Err NoParent) parent path
  without_parent h = record {
    no_parent = (λ e. none_of parent h, λ e. refl);
    same_path = (λ e. absurd (cc), λ e. absurd (let x : is_some parent ≡ true = e.0 in cc));
  }

  pub with_path : is_some parent ≡ true → path ≡ true → Verdict (Err SamePath) parent path
  with_path some there = record {
    no_parent = (λ e. absurd (cc), λ e. absurd (let x : is_some parent ≡ false = ap is_some e in cc));
    same_path = (λ e. (some, there), λ e. refl);
  }

  pub short : is_some parent ≡ true → path ≡ false → Verdict (Err WantOfMemory) parent path
  short some absent = record {
    no_parent = (λ e. absurd (cc), λ e. absurd (let x : is_some parent ≡ false = ap is_some e in cc));
    same_path = (λ e. absurd (cc), λ e. absurd (let x : path ≡ true = e.1 in cc));
  }

  pub joins : is_some parent ≡ true → path ≡ false → (k : ℕ) → Verdict (Ok k) parent path
  joins some absent k = record {
    no_parent = (λ e. absurd (cc), λ e. absurd (let x : is_some parent ≡ false = ap is_some e in cc));
    same_path = (λ e. absurd (cc), λ e. absurd (let x : path ≡ true = e.1 in cc));
  }
