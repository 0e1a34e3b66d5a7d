-- `tie_refusal` passes on what `keeper_refusal` answers, the two roles being of one level. Assumes nothing.
use Rattle.std.proofs.Common.{rules, arith, ℕ, ◌≤◌, ◌≡◌, Bool, false, cond, ◌||◌}
use borrow.Author.Tests.{eq-eqb}
use Rattle.bitset.specs.Tests.{either}
use Rattle.guard.specs.Refusals.{first}
use Rattle.guard.specs.Private.Decision.{answer_of, number_of}
use Rattle.guard.proofs.Decisions.{refused}
use Rattle.guard.proofs.roles.tie_refusal.Goals as goal

same_level : (n : ℕ) (low kept : Bool) (rest : ℕ) → 1 ≤ n → n ≡ cond low 10 (cond kept 12 0) → n ≡ cond (low || false) 10 (cond kept 12 rest)
same_level n low kept rest h e = grind arith

pub returns-in_err-keeper_refusal : goal.returns-in_err-keeper_refusal
unfolding first either
returns-in_err-keeper_refusal c =
    let e = c.in_err-keeper_refusal.field-0.0 in
    let same : answer_of c.from_residual.result ≡ number_of e = search rules in
    rw (same, c.if-not-v.false, c.if-v.false, eq-eqb _ _ c.if-q.false) (same_level _ _ _ _ (refused e) c.in_err-keeper_refusal.ensures)
