-- What is made afresh, and what is patched, put together from what their parts promise.
use mathlib.Core.Path.{◌≡◌, ap, ◌∙◌}
use mathlib.Core.Bool.{cond}
use mathlib.Core.List.{List, []}
use Prim.Native.Nat.{ℕ}
use lib.Dec.{eqb}
use lib.IntN.{ℤ}
use lib.ListN.{length}
use Rattle.arith.specs.Splice.{over}
use Rattle.record.specs.declared.entry.BlockVector.{BlockVector}
use Rattle.record.specs.Entries.{entry_at, set_of}
use Rattle.scatter.specs.Grid.{grid_of}
use Rattle.scatter.specs.Added.{patched}
use Rattle.maps.specs.Luma.{averages_made, average_patched}
use Rattle.maps.specs.Map.{map_made, map_patched}
use Rattle.maps.specs.declared.class.Counts.{Counts}
use Rattle.maps.specs.Class.{counts_of}
use Rattle.maps.specs.Kept.{counts_from, score_from, adjusted}
use Rattle.maps.proofs.Laws.Kept.{counts_from_made}
use Rattle.maps.specs.Planes.{Planes, planes, planes_made, planes_patched}
use Rattle.history.specs.History.{depth_of, cleared}
use Rattle.state.specs.declared.session.Session.{Session}
use Rattle.state.specs.Buffers.{lent, state_of}
use Rattle.state.specs.Calls.{rebuilt, edited_backward, edited_forward, edited}
use Rattle.state.specs.Sessions.{with_steps, with_kept}

-- ---- made afresh

module _ (s : Session) (b f t : List ℕ) (g : List ℤ) (xs ys a m h : List ℕ) where
  pub rebuild_made : (g' : List ℤ) (xs' ys' a' m' h' : List ℕ) (d : ℕ) (s' : Session) → g' ≡ over (grid_of s.shape s.time (set_of s.side b f)) g
      → a' ≡ averages_made s.shape t b f a → planes xs' ys' ≡ planes_made s.shape (set_of s.side b f) (planes xs ys)
      → m' ≡ map_made s.shape s.limits (set_of s.side b f) a' m → d ≡ depth_of (length h) → h' ≡ cleared d h
      → (k : Counts) → k ≡ counts_of s.shape s.limits (set_of s.side b f) a' → s' ≡ with_kept k (with_steps 0 0 s)
      → state_of s' (lent b f t g' xs' ys' a' m' h') ≡ rebuilt s b f (lent b f t g xs ys a m h)
  unfolding rebuilt
  rebuild_made g' xs' ys' a' m' h' d s' eg ea ep em ed eh k ek eS =
      let X : List ℕ = set_of s.side b f in
      let M : m' ≡ map_made s.shape s.limits X (averages_made s.shape t b f a) m = em ∙ ap (λ (l : List ℕ). map_made s.shape s.limits X l m) ea in
      let H : h' ≡ cleared (depth_of (length h)) h = eh ∙ ap (λ (k : ℕ). cleared k h) ed in
      let K : k ≡ counts_from s.shape s.limits t s.side b f = ek ∙ ap (counts_of s.shape s.limits X) ea ∙ counts_from_made s.shape s.limits t s.side b f a in
      let S : s' ≡ with_kept (counts_from s.shape s.limits t s.side b f) (with_steps 0 0 s) = eS ∙ ap (λ (c : Counts). with_kept c (with_steps 0 0 s)) K in
      λ i. state_of (S i) (lent b f t (eg i) (ep i).xs (ep i).ys (ea i) (M i) (H i))

-- ---- patched

module _ (s : Session) (side block : ℕ) (v : BlockVector) (b f t : List ℕ) (g : List ℤ) (xs ys a m : List ℕ) where
  -- the planes, where the sets become B and F
  abbrev planes_after : List ℕ → List ℕ → Planes
  planes_after B F = cond (eqb side s.side) (planes_patched s.shape (set_of s.side B F) block (planes xs ys)) (planes xs ys)

  pub edit_made : (old : BlockVector) (b' f' : List ℕ) (g' : List ℤ) (xs' ys' a' m' : List ℕ) (before after : ℤ) (s' : Session) → old ≡ entry_at (set_of side b f) block
      → b' ≡ edited_backward side block v b → f' ≡ edited_forward side block v f
      → g' ≡ cond (eqb side s.side) (patched s.shape s.time block old v g) g
      → planes xs' ys' ≡ planes_after b' f'
      → a' ≡ average_patched t b' f' block a → m' ≡ map_patched s.limits (set_of s.side b' f') (average_patched t b' f' block a) block m
      → before ≡ score_from t s.side b f block → after ≡ score_from t s.side b' f' block → s' ≡ with_kept (adjusted s.limits before after s.kept) s
      → state_of s' (lent b' f' t g' xs' ys' a' m' []) ≡ edited s side block v (lent b f t g xs ys a m [])
  unfolding edited
  edit_made old b' f' g' xs' ys' a' m' before after s' eo eb ef eg ep ea em e₀ e₁ es =
      let G = eg ∙ ap (λ (o : BlockVector). cond (eqb side s.side) (patched s.shape s.time block o v g) g) eo in
      let S = es ∙ (λ i. with_kept (adjusted s.limits (e₀ i) (e₁ i) s.kept) s) in
      (λ i. state_of (S i) (lent b' f' t (G i) (ep i).xs (ep i).ys (ea i) (em i) []))
      ∙ (λ i.
      state_of (with_kept (adjusted s.limits (score_from t s.side b f block) (score_from t s.side (eb i) (ef i) block) s.kept) s)
      (lent (eb i) (ef i) t (cond (eqb side s.side) (patched s.shape s.time block (entry_at (set_of side b f) block) v g) g)
      (planes_after (eb i) (ef i)).xs (planes_after (eb i) (ef i)).ys (average_patched t (eb i) (ef i) block a)
      (map_patched s.limits (set_of s.side (eb i) (ef i)) (average_patched t (eb i) (ef i) block a) block m) []))
