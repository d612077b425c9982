use Rattle.std.proofs.Common.{◌≡◌, ◌∙◌, ℕ, List, ◌∷◌, [], codes, refl}
use Rattle.canary_client_journal.specs.Meanings.{Row, replies, meaning_among, refusal_codes, message_codes, ahead}
use Rattle.canary_client_journal.specs.declared.meaning.Meaning.{Meaning}
use Rattle.canary_client_journal.specs.declared.meaning.Meaning.TheVariants.{Settled, Unavailable, Reused, Unread}
use Rattle.canary_client_journal.proofs.Pairs.{skipped}
use Rattle.canary_client_journal.proofs.meaning.meaning_with.Goals as goal

pub returns-else-is_pair-10 : goal.returns-else-is_pair-10
returns-else-is_pair-10 c =
    let status : ℕ = c.args.status in
    let code : List ℕ = c.args.code.now in
    let fault : Row = (503, (codes "no-memory" ∷ codes "storage" ∷ [], Unavailable)) in
    let long : Row = (413, (codes "too-long" ∷ [], Unread)) in
    let length : Row = (411, (codes "length" ∷ [], Unread)) in
    let method : Row = (405, (codes "method" ∷ [], Unread)) in
    let route : Row = (404, (codes "no-route" ∷ [], Unread)) in
    let message : Row = (400, (message_codes, Unread)) in
    let next : Row = (409, (codes "ahead" ∷ [], ahead c.args.expected)) in
    let reused : Row = (409, (codes "reused" ∷ [], Reused)) in
    let refusal : Row = (422, (refusal_codes, Settled)) in
    let ok : Row = (200, (codes "ok" ∷ [], Settled)) in
    let none : List Row = [] in
    let from_fault : List Row = fault ∷ none in
    let from_long : List Row = long ∷ from_fault in
    let from_length : List Row = length ∷ from_long in
    let from_method : List Row = method ∷ from_length in
    let from_route : List Row = route ∷ from_method in
    let from_message : List Row = message ∷ from_route in
    let from_next : List Row = next ∷ from_message in
    let from_reused : List Row = reused ∷ from_next in
    let from_refusal : List Row = refusal ∷ from_reused in
    skipped fault none status code _ _ c.is_pair-else-is_pair-9.ensures c.is_of_fault.ensures c.if-is_pair-10.false
    ∙ (skipped long from_fault status code _ _ c.is_pair-else-is_pair-8.ensures c.is_code-else-is_pair-8.ensures c.if-is_pair-9.false
    ∙ (skipped length from_long status code _ _ c.is_pair-else-is_pair-7.ensures c.is_code-else-is_pair-7.ensures c.if-is_pair-8.false
    ∙ (skipped method from_length status code _ _ c.is_pair-else-is_pair-6.ensures c.is_code-else-is_pair-6.ensures c.if-is_pair-7.false
    ∙ (skipped route from_method status code _ _ c.is_pair-else-is_pair-5.ensures c.is_code-else-is_pair-5.ensures c.if-is_pair-6.false
    ∙ (skipped message from_route status code _ _ c.is_pair-else-is_pair-4.ensures c.is_of_message.ensures c.if-is_pair-5.false
    ∙ (skipped next from_message status code _ _ c.is_pair-else-is_pair-3.ensures c.is_code-else-is_pair-3.ensures c.if-is_pair-4.false
    ∙ (skipped reused from_next status code _ _ c.is_pair-else-is_pair-2.ensures c.is_code-else-is_pair-2.ensures c.if-is_pair-3.false
    ∙ (skipped refusal from_reused status code _ _ c.is_pair-else-is_pair.ensures c.is_refusal.ensures c.if-is_pair-2.false
    ∙ skipped ok from_refusal status code _ _ c.is_pair.ensures c.is_code.ensures c.if-is_pair.false))))))))
