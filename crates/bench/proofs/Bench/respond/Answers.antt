-- `bench::Bench::respond` meets its contract: what is printed is the command's line, and the command leads on. Assumes
-- nothing.
use Rattle.std.proofs.Common.{ℕ, ◌+◌, ◌-◌, ◌≡◌, sym, subst, arith}
use Rattle.command.specs.Command.{Done}
use Rattle.bench.specs.Program.{Answer, answer_of, Reached, Says, answers, ran}
use Rattle.bench.proofs.Bench.respond.Goals as goal

-- what the command does holds of an answer that is equal to its own
says_it :
    (number : ℕ) (given : Answer) (done : Done)
    → number - 1 + 1 ≡ number
    → given ≡ answer_of number done
    → Says (number - 1) (answer_of (number - 1 + 1) done).line
    → Says (number - 1) given.line
says_it number given done next e said =
    subst
    (λ (a : Answer). Says (number - 1) a.line)
    (sym e)
    (subst (λ (n : ℕ). Says (number - 1) (answer_of n done).line) next said)

leads_on :
    (number : ℕ) (given : Answer) (done : Done)
    → number - 1 + 1 ≡ number
    → given ≡ answer_of number done
    → Reached (number - 1 + 1) done.table done.list
    → Reached number given.table given.list
leads_on number given done next e led =
    subst
    (λ (a : Answer). Reached number a.table a.list)
    (sym e)
    (subst (λ (n : ℕ). Reached n done.table done.list) next led)

pub print-requires : goal.print-requires
print-requires g c =
    let said = answers c.args.input.now c.requires.1 in
    says_it c.args.number _ _ (omega (arith, c.requires.0)) c.answer-n.ensures.1 said

pub returns : goal.returns
returns g c =
    let led = ran c.args.input.now c.requires.1 in
    leads_on c.args.number _ _ (omega (arith, c.requires.0)) c.answer-n.ensures.1 led
