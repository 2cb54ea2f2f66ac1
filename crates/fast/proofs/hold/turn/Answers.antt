-- `fast::hold::turn` meets its contract: whether or not the held products lie at the block's left cells, the same products go in.
use Rattle.std.specs.Prelude.{◌≡◌, refl, List, ℕ, ◌+◌, ℤ}
use Rattle.std.proofs.Common.{sym, ◌∙◌, SFits, to_z, of_z}
use Rattle.std.specs.Int.{w32}
use Rattle.arith.specs.Signed.{back}
use Rattle.fast.specs.Held.{paired, released, four}
use Rattle.fast.specs.Held.Laws.{four_is}
use Rattle.fast.proofs.hold.turn.Goals as goal

-- the block's left two on top of what was held, and then its right two
all_in : (S at : ℕ) (v0 v1 v2 v3 : ℤ) (g l : List ℤ) → SFits w32 v1 → SFits w32 v2 → l ≡ paired S at v0 v3 g
    → released S (record { at = at + 1; top = to_z w32 (of_z w32 v1); bottom = to_z w32 (of_z w32 v2) }) l ≡ four S at v0 v1 v2 v3 g
unfolding released
all_in S at v0 v1 v2 v3 g l f h e = (λ i. paired S (at + 1) (back w32 f i) (back w32 h i) (e i)) ∙ four_is S at v0 v1 v2 v3 g

pub returns-then-at-before : goal.returns-then-at-before
returns-then-at-before c =
    let a = c.args in
    let r = c.ranges in
    let held = released a.stride a.held a.grid.now in record {
      within = refl;
      adds = all_in a.stride a.at a.v0 a.v1 a.v2 a.v3 held _ r.v1 r.v2
          (c.merge.ensures ∙ (λ i. paired a.stride (sym c.if-at-before.true i) (back w32 r.v0 i) (back w32 r.v3 i) held));
    }

pub returns : goal.returns
returns c =
    let a = c.args in
    let r = c.ranges in record {
      within = refl;
      adds = all_in a.stride a.at a.v0 a.v1 a.v2 a.v3 (released a.stride a.held a.grid.now) _ r.v1 r.v2
          (c.pair.ensures ∙ (λ i. paired a.stride a.at (back w32 r.v0 i) (back w32 r.v3 i) (c.release.ensures i)));
    }
