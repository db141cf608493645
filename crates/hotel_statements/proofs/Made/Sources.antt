-- The one row, or none, that an UPDATE by the number of the row finds.
use Rattle.std.proofs.Common.{◌≡◌, ◌⊎◌, inl, inr, ap, subst, ◌∙◌, List, [], ◌∷◌, ℕ, map, filter, eqb}
use Rattle.std.proofs.Common.{nat_cmp}
use Rattle.std.specs.List.Sorted.{IsPermutation}
use Rattle.sqlite_value.specs.declared.keys.Collation.TheVariants.{Binary}
use Rattle.sqlite_sql.specs.declared.ops.BinaryOp.TheVariants.{Compare}
use Rattle.sqlite_sql.specs.declared.ops.CompareOp.TheVariants.{Eq}
use Rattle.sqlite.specs.Ops.{binary, is_true}
use Rattle.sqlite.specs.Order.{Row, column}
use Rattle.sqlite.specs.Query.{IsAnswer, Output, output}
use Rattle.sqlite.specs.Program.{overlay}
use Rattle.sqlite.specs.Term.{Term, eval_all}
use Rattle.sqlite.specs.Tree.{Trees}
use Rattle.sqlite.proofs.Callers.{one_permutation}
use Rattle.hotel_statements.specs.Values.{int}
use Rattle.hotel_statements.specs.Tables.{IsTable, IsWrittenAs, by_key}
use Rattle.sqlite_keyed.proofs.ListLemmas.{all_weaker}
use Rattle.hotel_statements.proofs.Keys.{equals, and_true}
use Rattle.hotel_statements.proofs.Answers.{answered, single, env, passes}
use Rattle.hotel_statements.proofs.Perm.{filter_alike, found_of, none_permuted}
use Rattle.hotel_statements.proofs.Statements.Terms.{by_rowid}
use Rattle.hotel_statements.proofs.Made.Entries.{few}

module _ {X : Type 0} (columns : Row → Row) (of : Row → ℕ × X) (written : ℕ × X → Row)
    (numbered : (r : Row) → IsWrittenAs columns of written r → column r 0 ≡ int (of (columns r)).0) where
  tested : (k : ℕ) (more r : Row)
      → IsWrittenAs columns of written r → passes by_rowid (int k ∷ more) r ≡ eqb (of (columns r)).0 k
  tested k more r good = and_true _
      ∙ ap (λ v. is_true (binary (Compare Eq Binary) v (int k))) (numbered r good) ∙ equals (of (columns r)).0 k

  -- the rows with the number, and what the query of the statement gives for them
  pub record Sourced (terms : List Term) (k : ℕ) (more : Row) (rows given : List Row) (r : Row) : Type 0 where
    pub found : filter (λ r. eqb (of (columns r)).0 k) rows ≡ r ∷ []
    pub good : IsWrittenAs columns of written r
    pub given_is : given ≡ eval_all terms (env (int k ∷ more) r) ∷ []

  abbrev outs : ℕ → List Term → Row → Row → Output
  outs tree terms params r = output (single tree by_rowid terms []) (env params r)

  pub sourced : (tree : ℕ) (terms : List Term) (k : ℕ) (more : Row) (db : Trees) (given : List Row)
      → IsTable (by_key nat_cmp) columns of written (db tree)
      → IsAnswer (single tree by_rowid terms []) (overlay db []) (int k ∷ more) given
      → ((filter (λ r. eqb (of (columns r)).0 k) (db tree) ≡ []) × (given ≡ []))
      ⊎ ((r : Row) × Sourced terms k more (db tree) given r)
  sourced tree terms k more db given was a =
      let it = answered tree by_rowid terms [] db (int k ∷ more) given a in
      let same = filter_alike (passes by_rowid (int k ∷ more)) (λ r. eqb (of (columns r)).0 k) (db tree)
      (all_weaker _ _ (tested k more) (db tree) was.good) in
      elim (few columns of written numbered k (db tree) was.apart) [
        | inl none ↦
            let ordered : it.ordered ≡ [] = none_permuted it.ordered
            (subst (λ rs. IsPermutation (map (outs tree terms (int k ∷ more)) rs) it.ordered) (same ∙ none) it.same) in
            inl (none, it.shown ∙ ap (map (λ o. o.1)) ordered)
        | inr one ↦
            let ordered : it.ordered ≡ outs tree terms (int k ∷ more) one.0 ∷ [] = one_permutation _ it.ordered
            (subst (λ rs. IsPermutation (map (outs tree terms (int k ∷ more)) rs) it.ordered) (same ∙ one.1) it.same) in
            inr (
              one.0,
              record {
                found = one.1;
                good = found_of (IsWrittenAs columns of written) (λ r. eqb (of (columns r)).0 k)
                    (db tree) one.0 was.good one.1;
                given_is = it.shown ∙ ap (map (λ o. o.1)) ordered;
              },
            )
      ]
