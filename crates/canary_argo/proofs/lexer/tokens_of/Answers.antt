use Rattle.std.proofs.Common.{arith, ap, length, List, ℕ, ◌≡◌, rules, subst}
use Rattle.canary_argo.specs.Tokens.{unblanked, HasTokens}
use Rattle.canary_argo.proofs.Words.{token_shorter, one_more_token, all_tokens_left, empty_is}
use Rattle.canary_argo.proofs.lexer.tokens_of.Goals as goal

pub loop-rest-smaller : goal.loop-rest-smaller
loop-rest-smaller c = omega (arith, token_shorter c.loop-rest.rest.now c.in_ok-token.token c.in_ok-token.behind.now c.in_ok-token.ensures, ap length c.unblanked-rest-in-loop-rest.ensures)

pub loop-rest-preserved : goal.loop-rest-preserved
loop-rest-preserved c = λ ts h. one_more_token (unblanked c.args.text.now) c.loop-rest.rest.now c.loop-rest.tokens.items c.push.new.self.items c.in_ok-token.token c.in_ok-token.behind.now c.loop-rest.invariant c.in_ok-token.ensures c.in_ok-push.ensures.items ts (subst (λ (r : List ℕ). HasTokens r ts) c.unblanked-rest-in-loop-rest.ensures h)

pub returns : goal.returns
returns c =
    let none : length c.loop-rest.rest.now ≡ 0 = search rules in
    all_tokens_left (unblanked c.args.text.now) c.loop-rest.tokens.items c.loop-rest.rest.now c.loop-rest.invariant (empty_is c.loop-rest.rest.now none)
