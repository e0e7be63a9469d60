use Rattle.std.proofs.Common.{ℕ, subst, sym}
use Rattle.pw_frame.specs.Frame.{IsHexadecimalDigit}
use Rattle.pw_frame.proofs.ending.stated_crc.Goals as goal

pub returns-in_err-a-clause-none : goal.returns-in_err-a-clause-none
returns-in_err-a-clause-none c = rw c.from_residual.ensures (λ stated h. c.in_err-a.ensures.none h.a (subst (λ (x : ℕ). IsHexadecimalDigit x h.a) (sym c.byte_at.ensures) h.first))

pub returns-in_err-b-clause-none : goal.returns-in_err-b-clause-none
returns-in_err-b-clause-none c = rw c.from_residual-in_err-b.ensures (λ stated h. c.in_err-b.ensures.none h.b (subst (λ (x : ℕ). IsHexadecimalDigit x h.b) (sym c.byte_at-2.ensures) h.second))

pub returns-in_err-c-clause-none : goal.returns-in_err-c-clause-none
returns-in_err-c-clause-none c = rw c.from_residual-in_err-c.ensures (λ stated h. c.in_err-c.ensures.none h.c (subst (λ (x : ℕ). IsHexadecimalDigit x h.c) (sym c.byte_at-3.ensures) h.third))

pub returns-in_err-d-clause-none : goal.returns-in_err-d-clause-none
returns-in_err-d-clause-none c = rw c.from_residual-in_err-d.ensures (λ stated h. c.in_err-d.ensures.none h.d (subst (λ (x : ℕ). IsHexadecimalDigit x h.d) (sym c.byte_at-4.ensures) h.fourth))
