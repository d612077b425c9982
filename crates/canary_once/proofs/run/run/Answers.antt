use Rattle.std.proofs.Common.{◌≡◌, ℕ, ◌+◌, ◌<◌, List, [], ◌∷◌, ◌++◌, sym, ap, ◌∙◌, subst, take, length, get_or, arith, length-take-le, length-append}
use Rattle.std.proofs.lemmas.List.{take_more}
use Rattle.canary_once.specs.declared.event.Event.{Event}
use Rattle.canary_once.specs.declared.event.Answer.{Answer}
use Rattle.canary_once.specs.Contents.{Contents}
use Rattle.std.proofs.lemmas.List.Elements.{All-push}
use Rattle.std.specs.Prelude.{All, Bool}
use Rattle.canary_once.specs.Single.{IsAnswer, IsFaultOf}
use Rattle.canary_once.proofs.Runs.{IsRun, run-push}
use Rattle.canary_once.proofs.run.run.Goals as goal

one_more : (c now new : Contents) (events : List Event) (i : ℕ) (given more : List Answer) (e : Event) (a : Answer) → i < length events → length given ≡ i → more ≡ given ++ a ∷ [] → e ≡ get_or events i e → IsRun c (take i events) given now → IsAnswer now e a new → IsRun c (take (i + 1) events) more new
one_more c now new events i given more e a lt n pushed at run h =
    rw (pushed, take_more events i e lt, ← at) (run-push c (take i events) given now e a new (n ∙ sym (length-take-le i events (omega arith))) run h)

one_fault : (sure now : Bool) (given more : List Answer) (a : Answer) → All (IsFaultOf sure) given → more ≡ given ++ a ∷ [] → now ≡ sure → IsFaultOf now a → All (IsFaultOf sure) more
one_fault sure now given more a all pushed same one = subst (All (IsFaultOf sure)) (sym pushed) (All-push (IsFaultOf sure) given a all (subst (λ s. IsFaultOf s a) same one))

longer : (given more : List Answer) (a : Answer) (n : ℕ) → more ≡ given ++ a ∷ [] → length given ≡ n → length more ≡ n + 1
longer given more a n pushed len = ap length pushed ∙ length-append given (a ∷ []) ∙ ap (λ k. k + 1) len

pub loop-event-preserved : goal.loop-event-preserved
loop-event-preserved g c =
    let i = c.loop-event.invariant in
    let p = c.answer-answer.ensures in
    let o = c.in_ok-push.ensures in
    let below : c.loop-event.event-index < length c.args.events.now = omega arith in
    record {
      honest = λ x. i.honest (p.honest x);
      in_memory = λ m. p.in_memory (i.in_memory m);
      sound = λ x s. p.sound x (i.sound (p.honest x) s);
      sure = p.sure ∙ i.sure;
      count = o.len ∙ ap (λ n. n + 1) i.count;
      len = longer _ _ _ _ o.items i.len;
      room = omega (arith, i.room, o.capacity);
      faults = one_fault _ _ _ _ _ i.faults o.items i.sure p.fault;
      receipts = λ x q n k e. p.receipts x q n k (i.receipts (p.honest x) q n k e);
      run = λ x. one_more _ _ _ _ _ _ _ _ _ below i.len o.items c.event-item.is (i.run (p.honest x)) (p.step x);
    }
