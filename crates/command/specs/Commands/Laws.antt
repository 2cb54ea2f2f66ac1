-- Laws of commands: what there is for a kind, the call that each kind of command asks for, and that its arguments are values of their types.
use Rattle.std.specs.Prelude.{◌≡◌, refl, List, ℕ, eqb, ℤ, pos}
use Rattle.std.proofs.Math.Path.{sym, ap}
use Rattle.std.proofs.Common.{arith, SFits, ◌∙◌}
use borrow.Author.Tests.{eqb-true, eqb-false, ne_eqb}
use Rattle.std.specs.Int.{w32}
use Rattle.arith.specs.Booleans.{cond_elim}
use Rattle.record.specs.Bytes.{Bytes}
use Rattle.state.specs.Calls.{entry_given}
use Rattle.machine.specs.Call.{PutTyped, Typed}
use Rattle.machine.specs.Call as C
use Rattle.command.specs.declared.Command.{Command}
use Rattle.command.specs.declared.Command.TheVariants.{Take, Put, Undo, Redo, Retime, Pool}
use Rattle.command.specs.Commands.{Known, kind_of, by_kind, read_kind, commanded, plain_command, put_command, retime_command}

-- ---- by the kind

module _ {A : Type 0} (take put undo redo retime pool : A) where
  pub by_take : (kind : ℕ) → kind ≡ 1 → by_kind kind take put undo redo retime pool ≡ take
  unfolding by_kind
  by_take kind e = ap (λ (k : ℕ). by_kind k take put undo redo retime pool) e

  pub by_put : (kind : ℕ) → kind ≡ 2 → by_kind kind take put undo redo retime pool ≡ put
  unfolding by_kind
  by_put kind e = ap (λ (k : ℕ). by_kind k take put undo redo retime pool) e

  pub by_undo : (kind : ℕ) → kind ≡ 3 → by_kind kind take put undo redo retime pool ≡ undo
  unfolding by_kind
  by_undo kind e = ap (λ (k : ℕ). by_kind k take put undo redo retime pool) e

  pub by_redo : (kind : ℕ) → kind ≡ 4 → by_kind kind take put undo redo retime pool ≡ redo
  unfolding by_kind
  by_redo kind e = ap (λ (k : ℕ). by_kind k take put undo redo retime pool) e

  pub by_retime : (kind : ℕ) → kind ≡ 5 → by_kind kind take put undo redo retime pool ≡ retime
  unfolding by_kind
  by_retime kind e = ap (λ (k : ℕ). by_kind k take put undo redo retime pool) e

  pub by_pool : (kind : ℕ) → (kind ≡ 1 → ⊥) → (kind ≡ 2 → ⊥) → (kind ≡ 3 → ⊥) → (kind ≡ 4 → ⊥) → (kind ≡ 5 → ⊥) → by_kind kind take put undo redo retime pool ≡ pool
  unfolding by_kind
  by_pool kind n₁ n₂ n₃ n₄ n₅ = simp (ne_eqb kind 1 n₁, ne_eqb kind 2 n₂, ne_eqb kind 3 n₃, ne_eqb kind 4 n₄, ne_eqb kind 5 n₅)

  -- what holds of each, where it is chosen, holds of the choice
  pub by_each : (P : A → Type 0) (kind : ℕ) → (kind ≡ 1 → P take) → (kind ≡ 2 → P put) → (kind ≡ 3 → P undo) → (kind ≡ 4 → P redo) → (kind ≡ 5 → P retime) → P pool
      → P (by_kind kind take put undo redo retime pool)
  unfolding by_kind
  by_each P kind t p u r m o =
      cond_elim P (eqb kind 1) take _ (λ e. t (eqb-true kind 1 e))
      (λ e. cond_elim P (eqb kind 2) put _ (λ e. p (eqb-true kind 2 e))
      (λ e. cond_elim P (eqb kind 3) undo _ (λ e. u (eqb-true kind 3 e))
      (λ e. cond_elim P (eqb kind 4) redo _ (λ e. r (eqb-true kind 4 e)) (λ e. cond_elim P (eqb kind 5) retime pool (λ e. m (eqb-true kind 5 e)) (λ e. o)))))

  -- the same, where none of the others is chosen
  pub by_none : (P : A → Type 0) (kind : ℕ) → (kind ≡ 1 → P take) → (kind ≡ 2 → P put) → (kind ≡ 3 → P undo) → (kind ≡ 4 → P redo) → (kind ≡ 5 → P retime)
      → ((kind ≡ 1 → ⊥) → (kind ≡ 2 → ⊥) → (kind ≡ 3 → ⊥) → (kind ≡ 4 → ⊥) → (kind ≡ 5 → ⊥) → P pool) → P (by_kind kind take put undo redo retime pool)
  unfolding by_kind
  by_none P kind t p u r m o =
      cond_elim P (eqb kind 1) take _ (λ e. t (eqb-true kind 1 e))
      (λ f₁. cond_elim P (eqb kind 2) put _ (λ e. p (eqb-true kind 2 e))
      (λ f₂. cond_elim P (eqb kind 3) undo _ (λ e. u (eqb-true kind 3 e))
      (λ f₃. cond_elim P (eqb kind 4) redo _ (λ e. r (eqb-true kind 4 e))
      (λ f₄. cond_elim P (eqb kind 5) retime pool (λ e. m (eqb-true kind 5 e))
      (λ f₅. o (eqb-false kind 1 f₁) (eqb-false kind 2 f₂) (eqb-false kind 3 f₃) (eqb-false kind 4 f₄) (eqb-false kind 5 f₅))))))

-- ---- a command's kind

pub kind_known : (c : Command) → Known (kind_of c)
unfolding kind_of
kind_known Take = record { least = omega arith; most = omega arith }
kind_known (Put side block x y sad luma gesture) = record { least = omega arith; most = omega arith }
kind_known Undo = record { least = omega arith; most = omega arith }
kind_known Redo = record { least = omega arith; most = omega arith }
kind_known (Retime T) = record { least = omega arith; most = omega arith }
kind_known Pool = record { least = omega arith; most = omega arith }

-- a known kind is read as itself
pub read_known : (kind : ℕ) → Known kind → read_kind kind ≡ kind
unfolding read_kind
read_known kind h =
    by_none 1 2 3 4 5 6 (λ (k : ℕ). k ≡ kind) kind (λ e. sym e) (λ e. sym e) (λ e. sym e) (λ e. sym e) (λ e. sym e)
    (λ n₁ n₂ n₃ n₄ n₅. omega (arith, h.least, h.most))

-- the plain command of each number has the kind that it is read as; of a known kind, that kind
pub plain_read : (kind : ℕ) → kind_of (plain_command kind) ≡ read_kind kind
unfolding kind_of plain_command read_kind
plain_read kind =
    by_none _ _ _ _ _ _ (λ (c : Command). kind_of c ≡ by_kind kind 1 2 3 4 5 6) kind (λ e. sym (by_take 1 2 3 4 5 6 kind e)) (λ e. sym (by_put 1 2 3 4 5 6 kind e))
    (λ e. sym (by_undo 1 2 3 4 5 6 kind e)) (λ e. sym (by_redo 1 2 3 4 5 6 kind e)) (λ e. sym (by_retime 1 2 3 4 5 6 kind e))
    (λ n₁ n₂ n₃ n₄ n₅. sym (by_pool 1 2 3 4 5 6 kind n₁ n₂ n₃ n₄ n₅))

pub kind_plain : (kind : ℕ) → Known kind → kind_of (plain_command kind) ≡ kind
kind_plain kind h = plain_read kind ∙ read_known kind h

-- ---- the call that is asked for

pub asks_take : (p q : List ℕ) → commanded (plain_command 1) p q ≡ C.take p
unfolding commanded by_kind plain_command
asks_take p q = refl

pub asks_put : (side block : ℕ) (x y sad : ℤ) (luma gesture : ℕ) (p q : List ℕ)
    → commanded (put_command side block x y sad luma gesture) p q ≡ C.put side block (entry_given x y sad luma) gesture
unfolding commanded by_kind put_command
asks_put side block x y sad luma gesture p q = refl

pub asks_undo : (p q : List ℕ) → commanded (plain_command 3) p q ≡ C.undo
unfolding commanded by_kind plain_command
asks_undo p q = refl

pub asks_redo : (p q : List ℕ) → commanded (plain_command 4) p q ≡ C.redo
unfolding commanded by_kind plain_command
asks_redo p q = refl

pub asks_retime : (T : ℤ) (p q : List ℕ) → commanded (retime_command T) p q ≡ C.retime T
unfolding commanded by_kind retime_command
asks_retime T p q = refl

pub asks_pool : (p q : List ℕ) → commanded (plain_command 6) p q ≡ C.pool p q
unfolding commanded by_kind plain_command
asks_pool p q = refl

-- ---- its arguments are values of their types

pub asked_put_typed : (side block : ℕ) (x y sad : ℤ) (luma gesture : ℕ) (p q : List ℕ) → PutTyped side block (entry_given x y sad luma) gesture
    → Typed (commanded (put_command side block x y sad luma gesture) p q)
unfolding commanded by_kind put_command Typed
asked_put_typed side block x y sad luma gesture p q t = t

pub asked_retime_typed : (T : ℤ) (p q : List ℕ) → SFits w32 T → Typed (commanded (retime_command T) p q)
unfolding commanded by_kind retime_command Typed
asked_retime_typed T p q t = t

-- of a kind that has its arguments in a command these are 0
pub asked_plain_typed : (kind : ℕ) (p q : List ℕ) → Bytes p → Bytes q → Typed (commanded (plain_command kind) p q)
unfolding commanded plain_command Typed
asked_plain_typed kind p q b d =
    by_each _ _ _ _ _ _ (λ (c : Command). Typed (commanded c p q)) kind (λ e. b) (λ e. zeros) (λ e. tt) (λ e. tt) (λ e. record { sfits = omega arith }) (b, d)
  where
    zeros : PutTyped 0 0 (entry_given (pos 0) (pos 0) (pos 0) 0) 0
    zeros =
        record {
          side_fits = omega arith;
          block_fits = omega arith;
          entry =
              record { x = record { sfits = omega arith }; y = record { sfits = omega arith }; sad = record { sfits = omega arith }; luma = omega arith };
          gesture_fits = omega arith;
        }
