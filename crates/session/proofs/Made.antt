-- The equation of each call put together from what its parts promise.
use mathlib.Core.Path.{◌≡◌, refl, sym, ap, ◌∙◌}
use mathlib.Core.Bool.{Bool, true, false, ◌&&◌, ◌||◌, true≢false}
use mathlib.Core.List.{List, []}
use Prim.Native.Nat.{ℕ, zero, suc, ◌-◌, ◌≤◌}
use native.Mathlib.Omega.{arith}
use borrow.Author.Tests.{ne_eqb, eqb-true, eqb-false}
use lib.Dec.{eqb}
use lib.IntN.{ℤ}
use lib.ListN.{length}
use Rattle.arith.specs.Booleans.{picked_yes, picked_no}
use Rattle.arith.specs.Splice.{over}
use Rattle.record.specs.declared.entry.BlockVector.{BlockVector}
use Rattle.record.specs.declared.shape.FieldShape.{FieldShape}
use Rattle.record.specs.Entries.{entry_at, set_of, side_accepted}
use Rattle.record.specs.Checks.{side_number}
use Rattle.record.specs.Numbers.{first, unless}
use Rattle.record.specs.Numbers.Laws as numbers
use Rattle.record.specs.Numbers.Laws.{first_zero, first_found}
use Rattle.record.specs.Shape.{shape_accepted, shape_number}
use Rattle.record.specs.Refusals.{code}
use Rattle.record.specs.Refusals.Laws.{code_positive}
use Rattle.record.specs.declared.refusal.Refusal.{Refusal}
use Rattle.record.specs.Update.{has_backward}
use Rattle.scatter.specs.Geometry.{time_accepted}
use Rattle.scatter.specs.Geometry.Laws.{time_number_lem}
use Rattle.scatter.specs.Grid.{grid_of}
use Rattle.history.specs.declared.Step.{Step}
use Rattle.history.specs.History.{depth_of, step_at, appended}
use Rattle.state.specs.declared.session.Session.{Session}
use Rattle.state.specs.declared.session.Sizes.{Sizes}
use Rattle.state.specs.Numbers.{sized, shown_number, carried_number, take_number}
use Rattle.state.specs.Ready.{TakeReady, RunReady}
use Rattle.state.proofs.Laws.Ready.{carried_ready, run_rest}
use Rattle.state.specs.Buffers.{Buffers, lent, sizes_of, State, state_of, Out, out, out_of}
use Rattle.state.specs.Calls.{rebuilt, edited, with_grid, with_history, when, renews, take_of, take_done, put_done, step_done, steps_done, retime_done}
use Rattle.state.specs.Sessions.{with_step, with_time}
use Rattle.state.specs.Steps.{slot_used, entry_used, step_moved}

-- ---- done, or refused

-- a call that is done where its number is 0: f is the number of the definition, found for the lengths z of the buffers
module _ (f : Sizes → ℕ) (z : Sizes) (b : Buffers) (sized : z ≡ sizes_of b) where
  pub number_zero : 0 ≡ f z → f (sizes_of b) ≡ 0
  number_zero said = sym (said ∙ ap f sized)

  -- m and s' are what the call answers
  module _ (s : Session) (done : Out) where
    pub when_refused : (e : Refusal) (m : ℕ) (s' : Session) → code e ≡ f z → m ≡ code e → s' ≡ s → out m s' b ≡ when (f (sizes_of b)) s b done
    unfolding when
    when_refused e m s' said em es =
        (λ i. out (em i) (es i) b) ∙ numbers.call_refused (λ (k : ℕ). out k s b) done (code e) _ (said ∙ ap f sized) (code_positive e)

    pub when_accepted : 0 ≡ f z → (m : ℕ) (s' s'' : Session) (after : Buffers) → m ≡ 0 → s' ≡ s'' → out 0 s'' after ≡ done
        → out m s' after ≡ when (f (sizes_of b)) s b done
    unfolding when
    when_accepted said m s' s'' after em es e =
        (λ i. out (em i) (es i) after) ∙ e ∙ numbers.call_accepted (λ (k : ℕ). out k s b) done 0 _ (said ∙ ap f sized) refl

-- ---- made afresh

-- of the sets given, whatever sets the buffers held
pub afresh : (number : ℕ) (s s' s₁ : Session) (b : Buffers) (b' f' b'' f'' : List ℕ) (after : Buffers)
    → s ≡ s' → b' ≡ b'' → f' ≡ f'' → state_of s₁ after ≡ rebuilt s b' f' (lent b' f' b.table b.grid b.xs b.ys b.averages b.map b.history)
    → out number s₁ after ≡ out_of number (rebuilt s' b'' f'' b)
unfolding rebuilt
afresh number s s' s₁ b b' f' b'' f'' after es eb ef ea = ap (out_of number) ea ∙ (λ i. out_of number (rebuilt (es i) (eb i) (ef i) b))

-- ---- patched

-- an edit was made of the buffers without their history: it carries the history along
along : (s s₁ : Session) (side block : ℕ) (v : BlockVector) (b after : Buffers) → state_of s₁ after ≡ edited s side block v (with_history [] b)
    → state_of s₁ (with_history b.history after) ≡ edited s side block v b
unfolding edited with_history
along s s₁ side block v b after made = ap (λ (e : State). state_of e.session (with_history b.history e.buffers)) made

-- put: the step recorded, with the entry that stood there and its gesture
pub put_made : (s s₁ : Session) (side block : ℕ) (v : BlockVector) (b after : Buffers) → state_of s₁ after ≡ edited s side block v (with_history [] b)
    → (gesture : ℕ) (h : List ℕ) (d : ℕ) (s' : Session) (old : BlockVector) → d ≡ depth_of (length b.history) → old ≡ entry_at (set_of side b.backward b.forward) block
    → h ≡ appended d s.past (record { block = block; side = side; old = old; new = v; gesture = gesture }) b.history → s' ≡ with_step d s₁
    → out 0 s' (with_history h after) ≡ put_done s side block v gesture b
unfolding with_history
put_made s s₁ side block v b after made gesture h d s' old ed eo eh es =
    let D : ℕ = depth_of (length b.history) in
    let p : BlockVector → Step = λ w. record { block = block; side = side; old = w; new = v; gesture = gesture } in
    let H : h ≡ appended D s.past (p (entry_at (set_of side b.backward b.forward) block)) b.history =
    eh ∙ (λ i. appended (ed i) s.past (p (eo i)) b.history) in
    let m = along s s₁ side block v b after made in
    (λ i. out 0 ((es ∙ ap (λ (n : ℕ). with_step n s₁) ed) i) (with_history (H i) after))
    ∙ (λ i. out 0 (with_step D (m i).session) (with_history (appended D s.past (p (entry_at (set_of side b.backward b.forward) block)) b.history) (m i).buffers))

-- one step of undo or redo: of the step that its slot holds, the entry that is used stored and patched
pub step_made : (back : Bool) (s s₁ s' : Session) (b after : Buffers) (p : Step) (v : BlockVector) (k : ℕ)
    → k ≡ slot_used back s → p ≡ step_at b.history k → v ≡ entry_used back p → state_of s₁ after ≡ edited s p.side p.block v (with_history [] b) → s' ≡ step_moved back s₁
    → out 0 s' (with_history b.history after) ≡ step_done back s b
step_made back s s₁ s' b after p v k ek ep ev made es =
    let q : p ≡ step_at b.history (slot_used back s) = ep ∙ ap (step_at b.history) ek in
    let m =
    along s s₁ p.side p.block v b after made
    ∙ ap (λ (w : BlockVector). edited s p.side p.block w b) ev
    ∙ ap (λ (t : Step). edited s t.side t.block (entry_used back t) b) q in
    (λ i. out 0 (es i) (with_history b.history after)) ∙ (λ i. out 0 (step_moved back (m i).session) (m i).buffers)

-- ---- a run of steps: what is left of it, done from session and buffers as they are, gives what the whole gives

module _ (back : Bool) (left : ℕ) (s : Session) (b : Buffers) where
  steps_turn : (s' : Session) (b' : Buffers) → 1 ≤ left → out 0 s' b' ≡ step_done back s b → steps_done back (left - 1) s' b' ≡ steps_done back left s b
  unfolding steps_done
  steps_turn s' b' h e = go left h
    where
      go : (n : ℕ) → 1 ≤ n → steps_done back (n - 1) s' b' ≡ steps_done back n s b
      go zero h = let z : ⊥ = omega arith in absurd z
      go (suc n) h =
          let m : suc n - 1 ≡ n = omega arith in
          ap (λ (k : ℕ). steps_done back k s' b') m ∙ ap (λ (a : Out). steps_done back n a.session a.after) e

  steps_end : left ≡ 0 → out 0 s b ≡ steps_done back left s b
  unfolding steps_done
  steps_end e = ap (λ (n : ℕ). steps_done back n s b) (sym e)

-- the loop over n steps, with some of them left: they give what the n give from session and buffers at first, they are ready, and every buffer has
-- the length that it had
pub record Going (back : Bool) (n : ℕ) (s₀ : Session) (b₀ : Buffers) (left : ℕ) (s : Session) (b : Buffers) : Type 0 where
  pub rest : steps_done back left s b ≡ steps_done back n s₀ b₀
  pub ready : RunReady back left s b
  pub sizes : sizes_of b ≡ sizes_of b₀

module _ (back : Bool) (n : ℕ) (s₀ : Session) (b₀ : Buffers) where
  pub going_start : RunReady back n s₀ b₀ → Going back n s₀ b₀ n s₀ b₀
  going_start r = record { rest = refl; ready = r; sizes = refl }

  pub going_turn : (left : ℕ) (s : Session) (b : Buffers) (s' : Session) (b' : Buffers) → 1 ≤ left → Going back n s₀ b₀ left s b
      → out 0 s' b' ≡ step_done back s b → sizes_of b' ≡ sizes_of b → Going back n s₀ b₀ (left - 1) s' b'
  going_turn left s b s' b' some g made sizes =
      record {
        rest = steps_turn back left s b s' b' some made ∙ g.rest;
        ready = run_rest back left s b some g.ready s' b' made sizes;
        sizes = sizes ∙ g.sizes;
      }

  pub going_end : (left : ℕ) (s : Session) (b : Buffers) (m : ℕ) → left ≤ 0 → Going back n s₀ b₀ left s b → n ≡ m → out 0 s b ≡ steps_done back m s₀ b₀
  going_end left s b m h g e =
      let z : left ≡ 0 = omega arith in
      steps_end back left s b z ∙ g.rest ∙ ap (λ (k : ℕ). steps_done back k s₀ b₀) e

-- ---- retime

pub retime_made : (s s' : Session) (T T' : ℤ) (b : Buffers) (g : List ℤ) → s' ≡ with_time T' s → T' ≡ T
    → g ≡ over (grid_of s.shape T' (set_of s.side b.backward b.forward)) b.grid → out 0 s' (with_grid g b) ≡ retime_done s T b
retime_made s s' T T' b g eS eT eg =
    let X : List ℕ = set_of s.side b.backward b.forward in
    let G : g ≡ over (grid_of s.shape T X) b.grid = eg ∙ ap (λ (x : ℤ). over (grid_of s.shape x X) b.grid) eT in
    let S : s' ≡ with_time T s = eS ∙ ap (λ (x : ℤ). with_time x s) eT in
    λ i. out 0 (S i) (with_grid (G i) b)

-- ---- take: kept as it was, or renewed

-- what a session carries is never refused by 6
carried_six : (s : FieldShape) (side : ℕ) (T : ℤ) (z : Sizes) → eqb (carried_number s side T z) 6 ≡ false
unfolding carried_number shown_number shape_number side_number first unless
carried_six s side T z =
    ap (λ (n : ℕ). eqb (first (shown_number s side z) n) 6) (time_number_lem T)
    ∙ go (shape_accepted s) (sized s z) (side_accepted side) (time_accepted T)
  where
    go : (a b c d : Bool) → eqb (first (first (unless a 2) (first (unless b 3) (unless c 8))) (unless d 7)) 6 ≡ false
    go false b c d = refl
    go true false c d = refl
    go true true false d = refl
    go true true true false = refl
    go true true true true = refl

module _ (s : Session) (payload : List ℕ) (b : Buffers) where
  -- what is carried and refused renews nothing
  carried_kept : (carried_number s.shape s.side s.time (sizes_of b) ≡ 0 → ⊥) → renews s.shape (take_number s payload (sizes_of b)) ≡ false
  unfolding take_number
  carried_kept h =
      let n : ℕ = carried_number s.shape s.side s.time (sizes_of b) in
      ap (λ (k : ℕ). renews s.shape k) (first_found n _ h)
      ∙ (λ i. ne_eqb n 0 h i || (carried_six s.shape s.side s.time (sizes_of b) i && has_backward s.shape))

  module _ (number : ℕ) (said : number ≡ take_number s payload (sizes_of b)) where
    pub take_kept : renews s.shape number ≡ false → out number s b ≡ take_of s payload b
    unfolding take_of
    take_kept r = picked_no (λ (k : ℕ). renews s.shape k) (λ (k : ℕ). take_done s payload k b) (λ (k : ℕ). out k s b) number _ said r

    -- a take that renews carries what is accepted, and its number is the payload's
    pub take_able : renews s.shape number ≡ true → TakeReady s payload number b
    unfolding take_number
    take_able r = go (eqb (carried_number s.shape s.side s.time (sizes_of b)) 0) (eqb-true _ 0) (eqb-false _ 0)
      where
        go : (t : Bool) → (t ≡ true → carried_number s.shape s.side s.time (sizes_of b) ≡ 0)
            → (t ≡ false → carried_number s.shape s.side s.time (sizes_of b) ≡ 0 → ⊥) → TakeReady s payload number b
        go true h k = record { ready = carried_ready s.shape s.side s.time (sizes_of b) (h refl); number_is = said ∙ first_zero _ _ (h refl) }
        go false h k = absurd (true≢false (sym r ∙ ap (λ (n : ℕ). renews s.shape n) said ∙ carried_kept (k refl)))

    pub take_accepted : renews s.shape number ≡ true → (done : Out) → done ≡ take_done s payload number b → done ≡ take_of s payload b
    unfolding take_of
    take_accepted r done e = e ∙ picked_yes (λ (k : ℕ). renews s.shape k) (λ (k : ℕ). take_done s payload k b) (λ (k : ℕ). out k s b) number _ said r
