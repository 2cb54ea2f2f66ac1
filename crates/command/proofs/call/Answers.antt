-- `command::call` meets its contract: of a put and a retime, whose signed arguments are read back.
use Rattle.std.specs.Prelude.{◌≡◌, List, ℕ, ℤ}
use Rattle.std.proofs.Common.{sym, ap, ◌∙◌, arith}
use Rattle.std.specs.Int.{w16, w32}
use Rattle.arith.specs.Signed.{back}
use Rattle.state.specs.declared.session.Session.{Session}
use Rattle.state.specs.Buffers.{Buffers, Out}
use Rattle.state.specs.Calls.{entry_given, put_of, retime_of}
use Rattle.machine.specs.Play.{call_of}
use Rattle.command.specs.declared.Command.{Command}
use Rattle.command.specs.declared.Command.TheVariants.{Put, Retime}
use Rattle.command.specs.Commands.{commanded}
use Rattle.command.proofs.call.Goals as goal

module _ (c : Command) (p q : List ℕ) (s : Session) (b : Buffers) (o : Out) where
  put_called : {side block luma gesture : ℕ} {x y sad x' y' sad' : ℤ} → c ≡ Put side block x y sad luma gesture → x' ≡ x → y' ≡ y → sad' ≡ sad
      → o ≡ put_of s side block (entry_given x' y' sad' luma) gesture b → o ≡ call_of (commanded c p q) s b
  unfolding commanded call_of
  put_called is ex ey es e = cc

  retime_called : {time T : ℤ} → c ≡ Retime time → T ≡ time → o ≡ retime_of s T b → o ≡ call_of (commanded c p q) s b
  unfolding commanded call_of
  retime_called {time} is et e =
      e ∙ ap (λ (t : ℤ). retime_of s t b) et ∙ ap (λ (d : Command). call_of (commanded d p q) s b) (sym is)

pub returns-in-Put-clause-made : goal.returns-in-Put-clause-made
returns-in-Put-clause-made c =
    let a = c.in-Put in
    put_called _ c.args.first.now c.args.second.now c.args.s _ _ a.is (back w16 (record { sfits = omega arith })) (back w16 (record { sfits = omega arith })) (back w32 (record { sfits = omega arith })) c.put.ensures.made

pub returns-in-Retime-clause-made : goal.returns-in-Retime-clause-made
returns-in-Retime-clause-made c = retime_called _ c.args.first.now c.args.second.now c.args.s _ _ c.in-Retime.is (back w32 (record { sfits = omega arith })) c.retime.ensures.made
