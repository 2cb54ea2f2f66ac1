-- What holds of an accepted shape, as plain facts of naturals: what the inner functions of every crate require of a shape.
-- Nothing here says that an overlap is at least 0: a step from 1 to 256 is all that is used.
use Rattle.std.specs.Prelude.{◌≡◌, Bool, true, false, ◌&&◌, ℕ, ◌+◌, ◌*◌, ◌≤◌, ◌<◌, ℤ, pos, nat_abs, ◌+ℤ◌, ◌-ℤ◌, ◌*ℤ◌, T, ltb, leb}
use Rattle.std.proofs.Common.{sym, ap, ◌∙◌, ⊎_elim, arith, mul-le-mul, mul-le-mul_right, mod-lt, div-lt_iff_lt-mul, lt_of_le_of_lt, lt_of_lt_of_le, ltb→lt, leb→le, pow_mono}
use Rattle.std.specs.Int.Signed.{lt_z, non_neg}
use Rattle.std.specs.Int.{Width, w32, w64}
use mir.Val.{Fits, SFits, bits, to_z, of_z}
use Rattle.arith.specs.Booleans.{and_left, and_right, is_false, cond_elim}
use Rattle.arith.specs.Filling.{rows_within}
use Rattle.arith.specs.Integers.{up, dn, in_range, range_true, dif_z, one_zero, abs_is, is_natural}
use Rattle.arith.specs.Signed.{back, abs_sfits, natural}
use Rattle.record.specs.declared.shape.FieldShape.{FieldShape}
use Rattle.record.specs.Numbers.Laws.{unless_good, unless_zero}
use Rattle.record.specs.Shape.{axis_accepted, shape_accepted, shape_number, step_of, blocks_of, set_size, area_of, packed_of, width_of, height_of, stride_of, trash_of, column_of, row_of}

-- a number in a range of naturals
pub record Ranged (m n : ℕ) (z : ℤ) : Type 0 where
  pub is : z ≡ pos (up z)
  pub least : m ≤ up z
  pub most : up z ≤ n

-- one axis: each side is in its range, and so is the step
pub record Axis (block overlap grid picture : ℤ) : Type 0 where
  pub block_range : Ranged 1 256 block
  pub step_range : Ranged 1 256 (block -ℤ overlap)
  pub grid_range : Ranged 1 1024 grid
  pub picture_range : Ranged 1 65535 picture

pub record Accepted (s : FieldShape) : Type 0 where
  pub x : Axis s.block_w s.overlap_x s.grid_w s.width
  pub y : Axis s.block_h s.overlap_y s.grid_h s.height
  pub pel_range : Ranged 1 64 s.pel

-- ---- from the test to the facts

ranged_of : (m n : ℕ) (z : ℤ) → m + dn z ≤ up z → up z ≤ n + dn z → Ranged m n z
ranged_of m n z h k = let e = is_natural z (omega arith) in record { is = e; least = omega arith; most = omega (arith, ap dn e) }

pub ranged : (m n : ℕ) (z : ℤ) → in_range (pos m) (pos n) z ≡ true → Ranged m n z
ranged m n z e = let r = range_true (pos m) (pos n) z e in ranged_of m n z (omega arith) (omega arith)

-- a block side and an overlap below it leave a step from 1 to the block side
stepped : (block overlap : ℤ) → Ranged 1 256 block → in_range (pos 0) (block -ℤ pos 1) overlap ≡ true → Ranged 1 256 (block -ℤ overlap)
stepped block overlap r e =
    let d = ap dn r.is in
    let b = r.most in
    let o = range_true (pos 0) (block -ℤ pos 1) overlap e in
    ranged_of 1 256 (block -ℤ overlap) (omega (arith, dif_z block (pos 1), dif_z block overlap)) (omega (arith, dif_z block overlap))

axis_facts : (block overlap grid picture : ℤ) → axis_accepted block overlap grid picture ≡ true → Axis block overlap grid picture
unfolding axis_accepted
axis_facts block overlap grid picture e =
    let b : Bool = in_range (pos 1) (pos 256) block in
    let o : Bool = in_range (pos 0) (block -ℤ pos 1) overlap in
    let g : Bool = in_range (pos 1) (pos 1024) grid in
    let bo : (b && o) ≡ true = and_left (b && o) g (and_left (b && o && g) _ e) in
    let block_in = ranged 1 256 block (and_left b o bo) in
    record {
      block_range = block_in;
      step_range = stepped block overlap block_in (and_right b o bo);
      grid_range = ranged 1 1024 grid (and_right (b && o) g (and_left (b && o && g) _ e));
      picture_range = ranged 1 65535 picture (and_right (b && o && g) _ e);
    }

pub accepted_facts : (s : FieldShape) → shape_accepted s ≡ true → Accepted s
unfolding shape_accepted
accepted_facts s e =
    let x : Bool = axis_accepted s.block_w s.overlap_x s.grid_w s.width in
    let y : Bool = axis_accepted s.block_h s.overlap_y s.grid_h s.height in
    record {
      x = axis_facts _ _ _ _ (and_left x y (and_left (x && y) _ e));
      y = axis_facts _ _ _ _ (and_right x y (and_left (x && y) _ e));
      pel_range = ranged 1 64 s.pel (and_right (x && y) _ e);
    }

-- the number of an accepted shape is 0
pub number_yes : (s : FieldShape) → shape_number s ≡ 0 → shape_accepted s ≡ true
unfolding shape_number
number_yes s e = unless_zero (shape_accepted s) 2 (λ q. omega arith) e

pub number_accepted : (s : FieldShape) → shape_number s ≡ 0 → Accepted s
number_accepted s e = accepted_facts s (number_yes s e)

pub accepted_number : (s : FieldShape) → shape_accepted s ≡ true → shape_number s ≡ 0
unfolding shape_number
accepted_number s e = unless_good (shape_accepted s) 2 e

pub number_no : (s : FieldShape) → (shape_number s ≡ 0 → ⊥) → shape_accepted s ≡ false
number_no s h = is_false (shape_accepted s) (λ e. h (accepted_number s e))

-- ---- bounds of the counts

pub packed_least : (block overlap grid picture : ℤ) → up grid ≤ packed_of block overlap grid picture
unfolding packed_of
packed_least block overlap grid picture = omega arith

packed_most : (block overlap grid picture : ℤ) → packed_of block overlap grid picture ≤ up grid + 1
unfolding packed_of
packed_most block overlap grid picture =
    cond_elim (λ (n : ℕ). up grid + n ≤ up grid + 1) (lt_z ((block -ℤ overlap) *ℤ grid +ℤ overlap) picture) 1 0 (λ e. omega arith) (λ e. omega arith)

-- facts of an accepted shape that callers want at once
pub record ShapeBounds (s : FieldShape) : Type 0 where
  pub blocks_most : blocks_of s ≤ 1048576
  pub area_least : 1 ≤ area_of s
  pub area_most : area_of s ≤ 65536
  pub width_least : 1 ≤ width_of s
  pub width_most : width_of s ≤ 1025
  pub height_least : 1 ≤ height_of s
  pub height_most : height_of s ≤ 1025

pub shape_bounds : (s : FieldShape) → Accepted s → ShapeBounds s
unfolding blocks_of area_of width_of height_of
shape_bounds s a =
    let x = a.x in
    let y = a.y in
    record {
      blocks_most = mul-le-mul x.grid_range.most y.grid_range.most;
      area_least = mul-le-mul x.block_range.least y.block_range.least;
      area_most = mul-le-mul x.block_range.most y.block_range.most;
      width_least = omega (arith, x.grid_range.least, packed_least s.block_w s.overlap_x s.grid_w s.width);
      width_most = omega (arith, x.grid_range.most, packed_most s.block_w s.overlap_x s.grid_w s.width);
      height_least = omega (arith, y.grid_range.least, packed_least s.block_h s.overlap_y s.grid_h s.height);
      height_most = omega (arith, y.grid_range.most, packed_most s.block_h s.overlap_y s.grid_h s.height);
    }

-- ---- column and row of a block

pub column_below : (s : FieldShape) (i : ℕ) → Accepted s → column_of s i < up s.grid_w
unfolding column_of
column_below s i a = mod-lt i a.x.grid_range.least

pub row_below : (s : FieldShape) (i : ℕ) → Accepted s → i < blocks_of s → row_of s i < up s.grid_h
unfolding row_of blocks_of
row_below s i a h = (div-lt_iff_lt-mul a.x.grid_range.least).1 (omega arith)

-- a column and a row are those of a block
pub block_below : (s : FieldShape) (row column : ℕ) → row < up s.grid_h → column < up s.grid_w → row * up s.grid_w + column < blocks_of s
unfolding blocks_of
block_below s row column h k = let m = mul-le-mul_right (up s.grid_w) h in omega arith

-- ---- a field of an accepted shape, as code reads it

-- a number in a range of i32, read back as a natural and as itself, and cast to a natural
module _ {m n : ℕ} {z : ℤ} (r : Ranged m n z) (small : T (ltb n 2147483648)) where
  ranged_below : up z < 2147483648
  ranged_below = lt_of_le_of_lt r.most (ltb→lt n 2147483648 small)

  ranged_read : to_z w32 (of_z w32 z) ≡ pos (up z)
  ranged_read = natural r.is ranged_below

  ranged_back : to_z w32 (of_z w32 z) ≡ z
  ranged_back = ranged_read ∙ sym r.is

  ranged_cast : (w : Width) → T (leb 31 (bits w)) → T (non_neg (to_z w32 (of_z w32 z))) × Fits w (nat_abs (to_z w32 (of_z w32 z)))
  ranged_cast w wide = rw ranged_read (tt, record { fits = lt_of_lt_of_le ranged_below (pow_mono (leb→le 31 (bits w) wide)) })

module _ {block overlap grid picture : ℤ} (a : Axis block overlap grid picture) where
  pub overlap_abs : nat_abs overlap ≤ 256
  overlap_abs =
      let b = ap dn a.block_range.is in
      let s = ap dn a.step_range.is in
      let n = a.block_range.most in
      let m = a.step_range.most in
      ⊎_elim (λ e. omega (arith, dif_z block overlap, abs_is overlap)) (λ e. omega (arith, dif_z block overlap, abs_is overlap)) (one_zero overlap)

  overlap_small : SFits w32 overlap
  overlap_small = let h = overlap_abs in abs_sfits w32 overlap (omega arith)

  pub block_read : to_z w32 (of_z w32 block) ≡ pos (up block)
  block_read = ranged_read a.block_range tt

  pub block_back : to_z w32 (of_z w32 block) ≡ block
  block_back = ranged_back a.block_range tt

  pub block_cast : T (non_neg (to_z w32 (of_z w32 block))) × Fits w32 (nat_abs (to_z w32 (of_z w32 block)))
  block_cast = ranged_cast a.block_range tt w32 tt

  pub overlap_back : to_z w32 (of_z w32 overlap) ≡ overlap
  overlap_back = back w32 overlap_small

  -- the step, as code makes it
  pub step_made : to_z w32 (of_z w32 block) -ℤ to_z w32 (of_z w32 overlap) ≡ pos (step_of block overlap)
  step_made = (λ i. block_back i -ℤ overlap_back i) ∙ a.step_range.is

  pub step_small : SFits w32 (pos (step_of block overlap))
  step_small = record { sfits = ranged_below a.step_range tt }

  pub grid_read : to_z w32 (of_z w32 grid) ≡ pos (up grid)
  grid_read = ranged_read a.grid_range tt

  pub grid_back : to_z w32 (of_z w32 grid) ≡ grid
  grid_back = ranged_back a.grid_range tt

  pub grid_cast : T (non_neg (to_z w32 (of_z w32 grid))) × Fits w64 (nat_abs (to_z w32 (of_z w32 grid)))
  grid_cast = ranged_cast a.grid_range tt w64 tt

  pub grid_count : nat_abs (to_z w32 (of_z w32 grid)) ≡ up grid
  grid_count = ap nat_abs grid_read

  pub picture_back : to_z w32 (of_z w32 picture) ≡ picture
  picture_back = ranged_back a.picture_range tt

module _ (s : FieldShape) (a : Accepted s) where
  pub pel_read : to_z w32 (of_z w32 s.pel) ≡ pos (up s.pel)
  pel_read = ranged_read a.pel_range tt

  pub pel_back : to_z w32 (of_z w32 s.pel) ≡ s.pel
  pel_back = ranged_back a.pel_range tt

  pub pel_cast : T (non_neg (to_z w32 (of_z w32 s.pel))) × Fits w32 (nat_abs (to_z w32 (of_z w32 s.pel)))
  pel_cast = ranged_cast a.pel_range tt w32 tt

-- ---- a block's place in a set

-- a block below n has its 8 bytes
pub entry_room : (s : FieldShape) (block size : ℕ) → block < blocks_of s → set_size s ≤ size → 8 * block + 8 ≤ size
unfolding set_size
entry_room s block size h k = omega arith

-- ---- a row of blocks, and the last cell

-- the blocks of a row are among the n
pub row_within : (s : FieldShape) (row : ℕ) → row < up s.grid_h → row * up s.grid_w + up s.grid_w ≤ blocks_of s
unfolding blocks_of
row_within s row h = rows_within row (up s.grid_h) (up s.grid_w) (blocks_of s) h (omega arith)

-- the trash cell is at 1,027² at most
pub trash_most : (s : FieldShape) → Accepted s → trash_of s ≤ 1054729
unfolding trash_of stride_of
trash_most s a =
    let w : width_of s + 2 ≤ 1027 = omega (arith, (shape_bounds s a).width_most) in
    let h : height_of s + 2 ≤ 1027 = omega (arith, (shape_bounds s a).height_most) in
    mul-le-mul w h
