-- The proof: the calls of a list's bytes are the list, and the machine's run of it with its undos and redos behind it ends where the list ends.
use Rattle.std.specs.Prelude.{◌≡◌, refl, ℕ, ◌+◌, ◌≤◌, ℤ, length, take}
use Rattle.std.proofs.Math.Path.{sym, ap}
use Rattle.std.proofs.Common.{◌∙◌, arith, eq-eqb, length-append}
use mathlib.Core.List.{List, [], ◌++◌, append-nil}
use Rattle.std.proofs.Math.ListN.{replicate}
use Rattle.std.proofs.lemmas.List.{length-replicate}
use Rattle.arith.specs.Booleans.{cond_true}
use Rattle.arith.specs.Splice.{over}
use Rattle.arith.specs.Splice.Laws.{take_over}
use Rattle.state.specs.Buffers.{sizes_of}
use Rattle.state.proofs.Laws.Calls.{open_number_lem}
use Rattle.state.specs.Numbers.{open_number}
use Rattle.machine.specs.Call.{Call, undo, redo, Typed, AllTyped}
use Rattle.machine.specs.Layout.{Opening, depth_for}
use Rattle.machine.specs.Machine.{Ran, opened, run}
use Rattle.machine.proofs.Laws.Machine.{run_length_lem}
use Rattle.machine.specs.Whole.{undos_of, undos_redos, machine_after}
use Rattle.machine.proofs.Laws.Whole.{calls_append, calls_both, typed_both, run_restored}
use Rattle.player.specs.Records.{calls_in}
use Rattle.player.specs.Records.Laws.{record_within}
use Rattle.player.specs.Played.{Begun, laid_after, begun_of}
use Rattle.player.specs.Written.{bytes_of, Writable, AllWritable}
use Rattle.player.proofs.Laws.Written.{calls_alone, written_bytes}
use Rattle.player.specs.Lists.{begun_for, PlaysEvery, GaveBack, GivesBackEvery}

-- undos and redos have no payload
writable_both : (k : ℕ) → AllWritable (undos_redos k)
unfolding Writable
writable_both = calls_both Writable tt tt

length_both : (k : ℕ) → length (undos_redos k) ≡ k + k
unfolding undos_redos
length_both k =
    length-append (replicate k undo) (replicate k redo) ∙ (λ i. length-replicate k undo i + length-replicate k redo i)

module _ (o : Opening) (T : ℤ) (answers : List ℕ) (accepted : open_number o.shape o.side T (sizes_of o.buffers) ≡ 0) where
  ran : List Call → Ran
  ran xs = run (depth_for o) o.shape xs (opened o.shape T)

  played : (xs : List Call) → AllTyped xs → length xs ≤ length answers → begun_for o T answers xs ≡ laid_after o (length xs) answers (ran xs)
  unfolding begun_for begun_of ran
  played xs t room =
      cond_true _ _ _ (eq-eqb _ 0 accepted) ∙ ap (λ (ys : List Call). laid_after o (length ys) answers (ran ys)) again
    where
      again : calls_in (length answers) (bytes_of xs) ≡ xs
      again = ap (calls_in (length answers)) (sym (append-nil (bytes_of xs))) ∙ calls_alone xs (length answers) [] t room (omega (arith, record_within []))

  -- with as many undos behind the list as it leaves past runs, and as many redos
  module _ (xs : List Call) (t : AllTyped xs) (k : ℕ) (ek : k ≡ undos_of (machine_after o T xs)) (room : length xs + (k + k) ≤ length answers) where
    both_room : length (xs ++ undos_redos k) ≡ length xs + (k + k)
    both_room = length-append xs (undos_redos k) ∙ ap (λ (n : ℕ). length xs + n) (length_both k)

    alone : begun_for o T answers xs ≡ laid_after o (length xs) answers (ran xs)
    alone = played xs t (omega arith)

    ran_back : ran (xs ++ undos_redos k) ≡ record { numbers = (ran xs).numbers ++ replicate (k + k) 0; end = (ran xs).end }
    unfolding ran machine_after
    ran_back =
        ap (λ (n : ℕ). ran (xs ++ undos_redos n)) ek
        ∙ run_restored o T xs (open_number_lem o.shape o.side o.limits T o.buffers ∙ accepted) t
        ∙ ap (λ (n : ℕ). record { numbers = (ran xs).numbers ++ replicate (n + n) 0; end = (ran xs).end }) (sym ek)

    all : begun_for o T answers (xs ++ undos_redos k)
        ≡ laid_after o (length xs + (k + k)) answers (record { numbers = (ran xs).numbers ++ replicate (k + k) 0; end = (ran xs).end })
    all =
        played (xs ++ undos_redos k) (calls_append Typed xs (undos_redos k) t (typed_both k)) (omega (arith, both_room))
        ∙ (λ i. laid_after o (both_room i) answers (ran_back i))

    first_answers : take (length xs) (over (ran xs).numbers answers) ≡ (ran xs).numbers
    unfolding ran
    first_answers = take_over (ran xs).numbers answers (length xs) (run_length_lem (depth_for o) o.shape xs (opened o.shape T))

    gave_back : GaveBack k answers (begun_for o T answers xs) (begun_for o T answers (xs ++ undos_redos k))
    unfolding laid_after
    gave_back =
        record {
          number = ap (λ (q : Begun). q.number) all;
          count = ap (λ (q : Begun). q.after.count) all ∙ sym (ap (λ (q : Begun). q.after.count + (k + k)) alone);
          numbers =
              ap (λ (q : Begun). q.after.answers) all
              ∙ sym (ap (λ (q : Begun). over (take q.after.count q.after.answers ++ replicate (k + k) 0) answers) alone
              ∙ ap (λ (l : List ℕ). over (l ++ replicate (k + k) 0) answers) first_answers);
          session = ap (λ (q : Begun). q.after.session) all ∙ sym (ap (λ (q : Begun). q.after.session) alone);
          buffers = ap (λ (q : Begun). q.after.buffers) all ∙ sym (ap (λ (q : Begun). q.after.buffers) alone);
        }

pub plays_every : PlaysEvery
unfolding PlaysEvery ran
plays_every o T answers xs accepted t w room = record { bytes = written_bytes xs t w; begun = played o T answers accepted xs t room }

pub gives_back_every : GivesBackEvery
unfolding GivesBackEvery
gives_back_every o T answers xs accepted t w room =
    let k : ℕ = undos_of (machine_after o T xs) in (
      written_bytes (xs ++ undos_redos k) (calls_append Typed xs (undos_redos k) t (typed_both k)) (calls_append Writable xs (undos_redos k) w (writable_both k)),
      gave_back o T answers accepted xs t k refl room,
    )
