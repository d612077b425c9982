-- What is kept of what was read stays what the contents have.
use Rattle.std.proofs.Common.{◌≡◌, ℕ, ◌+◌, List, [], ◌∷◌, ◌++◌, length, Bool, true, false, Some, None, Result, Ok, Err, refl, sym, ap, ◌∙◌, subst, arith, length-append}
use Rattle.std.specs.Prelude.{Option, cond, option_map, unwrap_or, slice_get, ◌-◌}
use Rattle.std.specs.List.{last_or}
use Rattle.std.specs.Ordering.{nat_cmp}
use Rattle.std.specs.Cmp.Lexicographic.{slice_cmp, nat_list_cmp_total}
use Rattle.std.specs.FinMap.{get, insert, remove, empty, get-insert, get-remove, get-empty}
use Rattle.canary_plan.specs.declared.command.Command.{Command}
use Rattle.canary_plan.specs.declared.command.Command.TheVariants.{Template as AddTemplate}
use Rattle.canary_plan.specs.declared.line.Line.{Line}
use Rattle.canary_plan.specs.declared.template.Template.{Template}
use Rattle.canary_plan.specs.declared.refusal.Refusal.{Refusal}
use Rattle.canary_plan.specs.Plans.{Templates}
use Rattle.canary_plan.specs.Commands.{subject_of}
use Rattle.canary_release.specs.declared.service.ServiceParts.{ServiceParts}
use Rattle.canary_release.specs.declared.effect.Effect.{Effect}
use Rattle.canary_release.specs.declared.decide.DeskChange.{DeskChange}
use Rattle.canary_release.specs.declared.decide.DeskChange.TheVariants.{Nothing, Template as AddsTemplate, Service as Updates}
use Rattle.canary_release.specs.Rules.Commands.{ModelResult}
use Rattle.canary_release.specs.Evolutions.{Evolution}
use Rattle.canary_release.specs.Desks.{ModelService, Desk, model_evolution, after, ruling_on, apply, newest, revisions_of, rules, adds_unless, rule_service}
use Rattle.canary_release.specs.Stored.{stored_form, stored_service, change_of, desk_with, KeepsWhatIsSeen}
use Rattle.canary_release.specs.Order.{AreInOrder}
use Rattle.canary_once.specs.declared.book.Receipt.{Receipt}
use Rattle.canary_once.specs.declared.book.Settlement.{Settlement}
use Rattle.canary_once.specs.Contents.{Contents, count_of, receipt_at, receipts_of, IsSettling, with_settlement, put_some}
use Rattle.canary_once.specs.Records.{history_of}
use Rattle.canary_once.proofs.Events.{keep_keeps}
use Rattle.sqlite.specs.State.{State}
use Rattle.canary_tables.specs.Desk.{IsDesk, contents_in}
use Rattle.canary_tables.specs.declared.cache.Cache.{Cache}
use Rattle.canary_tables.specs.declared.cache.NumberedReceipt.{NumberedReceipt}
use Rattle.canary_tables.specs.CacheMaps.{Named, IsWithin}
use Rattle.canary_tables.specs.Caches.{AreCounts, AreServices, AreTemplates, AreReceipts, AreHistories, IsCacheOf, KeepsNothing, without_revised, with_changed, with_lines, kept_of, IsKnown}
use Rattle.canary_tables.proofs.EntryLemmas.{is_it, equal_names, kept_within, same_name}
use Rattle.canary_tables.proofs.HistoryLemmas.{brought, named_so, histories_after, one_history_more}

-- what is known of the service that a change names
pub known_so : (c : Contents) (services : Named ServiceParts) (change : DeskChange) (cached : Option ServiceParts) → AreServices services c → cached ≡ kept_of services change → IsKnown cached change c
known_so c services Nothing cached are is = tt
known_so c services (AddsTemplate template) cached are is = tt
known_so c services (Updates s effects) cached are is = λ k e. are s.service.name k (sym is ∙ e)

-- Some leaves, and one is added.

fewer_services : (c : Contents) (m n : Named ServiceParts) → AreServices m c → IsWithin n m → AreServices n c
fewer_services c m n are within = λ name s is. are name s (within name s is)

pub one_count_more : (c : Contents) (m n : Named ℕ) (caller : List ℕ) (count : ℕ) → AreCounts m c → count ≡ count_of c caller → IsWithin n (insert m caller count) → AreCounts n c
one_count_more c m n caller count are is within q k there =
    one (is_it q caller) (equal_names q caller) (sym (get-insert nat_list_cmp_total m caller count q) ∙ within q k there) where
      one : (b : Bool) → (b ≡ true → q ≡ caller) → cond b (Some count) (get m q) ≡ Some k → k ≡ count_of c q
      one true same e = let same_count : count ≡ k = cc in sym same_count ∙ is ∙ ap (count_of c) (sym (same refl))
      one false same e = are q k e

pub one_service_more : (c : Contents) (m n : Named ServiceParts) (name : List ℕ) (found : Option ServiceParts) → AreServices m c → found ≡ stored_service c.desk name → IsWithin n (put_some m name found) → AreServices n c
one_service_more c m n name None are is within = fewer_services c m n are within
one_service_more c m n name (Some s) are is within = λ q v there.
    one q v (is_it q name) (equal_names q name) (sym (get-insert nat_list_cmp_total m name s q) ∙ within q v there) where
      one : (q : List ℕ) (v : ServiceParts) (b : Bool) → (b ≡ true → q ≡ name) → cond b (Some s) (get m q) ≡ Some v → stored_service c.desk q ≡ Some v
      one q v true same e = ap (stored_service c.desk) (same refl) ∙ sym is ∙ e
      one q v false same e = are q v e

pub one_template_more : (c : Contents) (m n : Named Template) (name : List ℕ) (found : Option Template) → AreTemplates m c → found ≡ newest c.desk.templates name → IsWithin n (put_some m name found) → AreTemplates n c
one_template_more c m n name None are is within = λ q v there. are q v (within q v there)
one_template_more c m n name (Some t) are is within = λ q v there.
    one q v (is_it q name) (equal_names q name) (sym (get-insert nat_list_cmp_total m name t q) ∙ within q v there) where
      one : (q : List ℕ) (v : Template) (b : Bool) → (b ≡ true → q ≡ name) → cond b (Some t) (get m q) ≡ Some v → newest c.desk.templates q ≡ Some v
      one q v true same e = ap (newest c.desk.templates) (same refl) ∙ sym is ∙ e
      one q v false same e = are q v e

pub one_receipt_more : (c : Contents) (m n : Named NumberedReceipt) (place : List ℕ) (r : NumberedReceipt) → AreReceipts m c → receipt_at c r.caller r.number ≡ Some r.receipt → IsWithin n (insert m place r) → AreReceipts n c
one_receipt_more c m n place r are is within = λ q v there.
    one q v (is_it q place) (sym (get-insert nat_list_cmp_total m place r q) ∙ within q v there) where
      one : (q : List ℕ) (v : NumberedReceipt) (b : Bool) → cond b (Some r) (get m q) ≡ Some v → receipt_at c v.caller v.number ≡ Some v.receipt
      one q v true e = let same : r ≡ v = cc in subst (λ (x : NumberedReceipt). receipt_at c x.caller x.number ≡ Some x.receipt) same is
      one q v false e = are q v e

-- the receipt that is kept in a place is that of its caller and number
pub of_its_own : (c : Contents) (r : NumberedReceipt) (caller : List ℕ) (number : ℕ) → (r.caller ≡ caller) × (r.number ≡ number) → receipt_at c r.caller r.number ≡ Some r.receipt → receipt_at c caller number ≡ Some r.receipt
of_its_own c r caller number same is = ap (λ n. receipt_at c n number) (sym same.0) ∙ (ap (receipt_at c r.caller) (sym same.1) ∙ is)

-- A request is settled.

last_there : (receipts : List Receipt) (r : Receipt) → slice_get (receipts ++ r ∷ []) (length receipts) ≡ Some r
last_there [] r = refl
last_there (x ∷ receipts) r = last_there receipts r

next_place : (number count : ℕ) → number ≡ count + 1 → number - 1 ≡ count
next_place number count next = omega arith

receipt_settled : (c : Contents) (s : Settlement) → s.number ≡ count_of c s.caller + 1 → receipt_at (with_settlement c s) s.caller s.number ≡ Some s.receipt
receipt_settled c s next =
    ap (λ (o : Option (List Receipt)). slice_get (unwrap_or o []) (s.number - 1))
    (get-insert nat_list_cmp_total c.callers s.caller (receipts_of c s.caller ++ s.receipt ∷ []) s.caller ∙ ap (λ (b : Bool). cond b (Some (receipts_of c s.caller ++ s.receipt ∷ [])) (get c.callers s.caller)) (same_name s.caller))
    ∙ (ap (slice_get (receipts_of c s.caller ++ s.receipt ∷ [])) (next_place s.number (count_of c s.caller) next) ∙ last_there (receipts_of c s.caller) s.receipt)

-- receipts are still what the contents have once another request is settled
receipts_stay : (c : Contents) (s : Settlement) (m : Named NumberedReceipt) → AreReceipts m c → AreReceipts m (with_settlement c s)
receipts_stay c s m are = λ place r there. keep_keeps c (with_settlement c s).desk s.caller s.receipt r.caller r.number r.receipt (are place r there)

count_after : (c : Contents) (s : Settlement) (m n : Named ℕ) → s.number ≡ count_of c s.caller + 1 → AreCounts m c → IsWithin n (insert m s.caller s.number) → AreCounts n (with_settlement c s)
count_after c s m n next are within q k there =
    subst (λ (o : Option (List Receipt)). k ≡ length (unwrap_or o [])) (sym (get-insert nat_list_cmp_total c.callers s.caller (receipts_of c s.caller ++ s.receipt ∷ []) q))
    (one (is_it q s.caller) (sym (get-insert nat_list_cmp_total m s.caller s.number q) ∙ within q k there)) where
      one : (b : Bool) → cond b (Some s.number) (get m q) ≡ Some k → k ≡ length (unwrap_or (cond b (Some (receipts_of c s.caller ++ s.receipt ∷ [])) (get c.callers q)) [])
      one true e = let same : s.number ≡ k = cc in sym same ∙ next ∙ sym (length-append (receipts_of c s.caller) (s.receipt ∷ []))
      one false e = are q k e

services_after : KeepsWhatIsSeen → (desk : Desk) (now : ℕ) (command : Command) (change : DeskChange) → change ≡ change_of (ruling_on desk now command).change → desk_with desk command change ≡ (apply desk now command).desk → AreInOrder (desk_with desk command change)
    → (m n : Named ServiceParts) → ((name : List ℕ) (s : ServiceParts) → get m name ≡ Some s → stored_service desk name ≡ Some s) → IsWithin n (with_changed m change)
    → (name : List ℕ) (s : ServiceParts) → get n name ≡ Some s → stored_service (desk_with desk command change) name ≡ Some s
services_after law desk now command Nothing is next_desk order m n are within = λ name s there. are name s (within name s there)
services_after law desk now command (AddsTemplate template) is next_desk order m n are within = λ name s there. are name s (within name s there)
services_after law desk now command (Updates s effects) is next_desk order m n are within = λ q v kept.
    one q v (is_it q s.service.name) (equal_names q s.service.name) refl
    (sym (get-insert nat_list_cmp_total m s.service.name s q) ∙ within q v kept) where
      next : Desk
      next = desk_with desk command (Updates s effects)

      there : stored_service next (subject_of command) ≡ Some s
      there = brought law desk now command s effects is next_desk

      named : s.service.name ≡ subject_of command
      named = named_so next (subject_of command) s order there

      becomes : ModelService
      becomes = after (get desk.services (subject_of command)) s.service effects

      one : (q : List ℕ) (v : ServiceParts) (b : Bool) → (b ≡ true → q ≡ s.service.name) → is_it q s.service.name ≡ b → cond b (Some s) (get m q) ≡ Some v → stored_service next q ≡ Some v
      one q v true same is_b e = ap (stored_service next) (same refl ∙ named) ∙ there ∙ e
      one q v false same is_b e =
          ap (option_map stored_form) (get-insert nat_list_cmp_total desk.services (subject_of command) becomes q ∙ ap (λ (b : Bool). cond b (Some becomes) (get desk.services q)) (ap (is_it q) (sym named) ∙ is_b)) ∙ are q v e

-- a change that adds a revision is that of a command on its template
no_revision : (r : Result ModelResult Refusal) (t : Template) → AddsTemplate t ≡ change_of (rules r).change → ⊥
no_revision (Ok a) t e = cc
no_revision (Err refusal) t e = cc

no_revision_of : (cached : Templates) (found : Option Evolution) (now : ℕ) (command : Command) (t : Template) → AddsTemplate t ≡ change_of (rule_service cached found now command).change → ⊥
no_revision_of cached None now command t e = no_revision _ t e
no_revision_of cached (Some c) now command t e = no_revision _ t e

no_revision_on : (desk : Desk) (now : ℕ) (command : Command) (t : Template) → AddsTemplate t ≡ change_of (rule_service (newest desk.templates) (option_map model_evolution (get desk.services (subject_of command))) now command).change → ⊥
no_revision_on desk now command t e = no_revision_of (newest desk.templates) (option_map model_evolution (get desk.services (subject_of command))) now command t e

revision_added : (o : Option Refusal) (t u : Template) → AddsTemplate t ≡ change_of (adds_unless o u).change → t ≡ u
revision_added None t u e = cc
revision_added (Some refusal) t u e = let never : ⊥ = cc in absurd never

revised : (desk : Desk) (now : ℕ) (command : Command) (t : Template) → AddsTemplate t ≡ change_of (ruling_on desk now command).change → t.spec.name ≡ subject_of command
revised desk now (AddTemplate spec) t e = ap (λ (u : Template). u.spec.name) (revision_added _ t _ e)
revised desk now command t e = absurd (no_revision_on desk now command t e)

others_stay : (desk : Desk) (u : Template) (name : List ℕ) (m : Named Template) → ((q : List ℕ) (t : Template) → get m q ≡ Some t → newest desk.templates q ≡ Some t)
    → (q : List ℕ) (t : Template) → get (remove m name) q ≡ Some t → newest (insert desk.templates name (revisions_of desk.templates name ++ u ∷ [])) q ≡ Some t
others_stay desk u name m are q t there =
    ap (λ (o : Option (List Template)). last_or None (unwrap_or o [])) (get-insert nat_list_cmp_total desk.templates name (revisions_of desk.templates name ++ u ∷ []) q)
    ∙ one (is_it q name) (sym (get-remove nat_list_cmp_total m name q) ∙ there) where
      one : (b : Bool) → cond b None (get m q) ≡ Some t → last_or None (unwrap_or (cond b (Some (revisions_of desk.templates name ++ u ∷ [])) (get desk.templates q)) []) ≡ Some t
      one true e = let never : ⊥ = cc in absurd never
      one false e = are q t e

templates_after : (desk : Desk) (now : ℕ) (command : Command) (change : DeskChange) → change ≡ change_of (ruling_on desk now command).change → (m n : Named Template) → ((name : List ℕ) (t : Template) → get m name ≡ Some t → newest desk.templates name ≡ Some t)
    → n ≡ without_revised m change → (name : List ℕ) (t : Template) → get n name ≡ Some t → newest (desk_with desk command change).templates name ≡ Some t
templates_after desk now command Nothing is m n are same name t there = are name t (ap (λ (x : Named Template). get x name) (sym same) ∙ there)
templates_after desk now command (Updates s effects) is m n are same name t there = are name t (ap (λ (x : Named Template). get x name) (sym same) ∙ there)
templates_after desk now command (AddsTemplate u) is m n are same name t there =
    others_stay desk u (subject_of command) m are name t
    (ap (λ (k : List ℕ). get (remove m k) name) (sym (revised desk now command u is)) ∙ ap (λ (x : Named Template). get x name) (sym same) ∙ there)

pub kept_after : KeepsWhatIsSeen → (c : Contents) (s : Settlement) (old new : Cache) → IsSettling c s → AreInOrder (with_settlement c s).desk → IsCacheOf old c
    → IsWithin new.counts (insert old.counts s.caller s.number) → IsWithin new.services (with_changed old.services s.change) → new.templates ≡ without_revised old.templates s.change
    → IsWithin new.histories (with_lines old.histories s.change) → ((k : Contents) → AreReceipts old.receipts k → receipt_at k s.caller s.number ≡ Some s.receipt → AreReceipts new.receipts k)
    → IsCacheOf new (with_settlement c s)
kept_after law c s old new settling order are counts services templates histories receipts =
    record {
      counts = count_after c s old.counts new.counts settling.number are.counts counts;
      services = services_after law c.desk settling.step.0 s.receipt.command s.change settling.step.1.change settling.step.1.desk_after order old.services new.services are.services services;
      templates = templates_after c.desk settling.step.0 s.receipt.command s.change settling.step.1.change old.templates new.templates are.templates templates;
      receipts = receipts (with_settlement c s) (receipts_stay c s old.receipts are.receipts) (receipt_settled c s settling.number);
      histories = histories_after law c.desk settling.step.0 s.receipt.command s.change settling.step.1.change settling.step.1.desk_after order old.histories new.histories are.histories histories;
    }

-- One is read.

pub count_kept : (c : Contents) (old new : Cache) (caller : List ℕ) (count : ℕ) → IsCacheOf old c → count ≡ count_of c caller → IsWithin new.counts (insert old.counts caller count) → new.services ≡ old.services → new.templates ≡ old.templates → new.receipts ≡ old.receipts → new.histories ≡ old.histories → IsCacheOf new c
count_kept c old new caller count are is counts services templates receipts histories =
    record {
      counts = one_count_more c old.counts new.counts caller count are.counts is counts;
      services = subst (λ (m : Named ServiceParts). AreServices m c) (sym services) are.services;
      templates = subst (λ (m : Named Template). AreTemplates m c) (sym templates) are.templates;
      receipts = subst (λ (m : Named NumberedReceipt). AreReceipts m c) (sym receipts) are.receipts;
      histories = subst (λ (m : Named (List Line)). AreHistories m c) (sym histories) are.histories;
    }

pub service_kept : (c : Contents) (old new : Cache) (name : List ℕ) (found : Option ServiceParts) → IsCacheOf old c → found ≡ stored_service c.desk name → new.counts ≡ old.counts → IsWithin new.services (put_some old.services name found) → new.templates ≡ old.templates → new.receipts ≡ old.receipts → new.histories ≡ old.histories → IsCacheOf new c
service_kept c old new name found are is counts services templates receipts histories =
    record {
      counts = subst (λ (m : Named ℕ). AreCounts m c) (sym counts) are.counts;
      services = one_service_more c old.services new.services name found are.services is services;
      templates = subst (λ (m : Named Template). AreTemplates m c) (sym templates) are.templates;
      receipts = subst (λ (m : Named NumberedReceipt). AreReceipts m c) (sym receipts) are.receipts;
      histories = subst (λ (m : Named (List Line)). AreHistories m c) (sym histories) are.histories;
    }

pub template_kept : (c : Contents) (old new : Cache) (name : List ℕ) (found : Option Template) → IsCacheOf old c → found ≡ newest c.desk.templates name → new.counts ≡ old.counts → new.services ≡ old.services → IsWithin new.templates (put_some old.templates name found) → new.receipts ≡ old.receipts → new.histories ≡ old.histories → IsCacheOf new c
template_kept c old new name found are is counts services templates receipts histories =
    record {
      counts = subst (λ (m : Named ℕ). AreCounts m c) (sym counts) are.counts;
      services = subst (λ (m : Named ServiceParts). AreServices m c) (sym services) are.services;
      templates = one_template_more c old.templates new.templates name found are.templates is templates;
      receipts = subst (λ (m : Named NumberedReceipt). AreReceipts m c) (sym receipts) are.receipts;
      histories = subst (λ (m : Named (List Line)). AreHistories m c) (sym histories) are.histories;
    }

pub receipt_kept : (c : Contents) (old new : Cache) (caller : List ℕ) (number : ℕ) (found : Option Receipt) → IsCacheOf old c → found ≡ receipt_at c caller number → new.counts ≡ old.counts → new.services ≡ old.services → new.templates ≡ old.templates → new.histories ≡ old.histories
    → ((k : Contents) → AreReceipts old.receipts k → found ≡ receipt_at k caller number → AreReceipts new.receipts k) → IsCacheOf new c
receipt_kept c old new caller number found are is counts services templates histories receipts =
    record {
      counts = subst (λ (m : Named ℕ). AreCounts m c) (sym counts) are.counts;
      services = subst (λ (m : Named ServiceParts). AreServices m c) (sym services) are.services;
      templates = subst (λ (m : Named Template). AreTemplates m c) (sym templates) are.templates;
      receipts = receipts c are.receipts is;
      histories = subst (λ (m : Named (List Line)). AreHistories m c) (sym histories) are.histories;
    }

pub history_kept : (c : Contents) (old new : Cache) (name : List ℕ) (read : List Line) → IsCacheOf old c → read ≡ history_of c name → new.counts ≡ old.counts → new.services ≡ old.services → new.templates ≡ old.templates → new.receipts ≡ old.receipts → IsWithin new.histories (insert old.histories name read) → IsCacheOf new c
history_kept c old new name read are is counts services templates receipts histories =
    record {
      counts = subst (λ (m : Named ℕ). AreCounts m c) (sym counts) are.counts;
      services = subst (λ (m : Named ServiceParts). AreServices m c) (sym services) are.services;
      templates = subst (λ (m : Named Template). AreTemplates m c) (sym templates) are.templates;
      receipts = subst (λ (m : Named NumberedReceipt). AreReceipts m c) (sym receipts) are.receipts;
      histories = one_history_more c old.histories new.histories name read are.histories is histories;
    }

-- what is kept once a request is settled
pub settled_kept : KeepsWhatIsSeen → (old new : State) (s : Settlement) (before forgot after : Cache) → IsSettling (contents_in old) s → IsDesk new → contents_in new ≡ with_settlement (contents_in old) s → IsCacheOf before (contents_in old)
    → forgot.counts ≡ before.counts → forgot.services ≡ before.services → forgot.templates ≡ without_revised before.templates s.change → IsWithin after.counts (insert forgot.counts s.caller s.number) → IsWithin after.services (with_changed forgot.services s.change) → after.templates ≡ forgot.templates
    → forgot.receipts ≡ before.receipts → ((k : Contents) → AreReceipts forgot.receipts k → receipt_at k s.caller s.number ≡ Some s.receipt → AreReceipts after.receipts k)
    → forgot.histories ≡ before.histories → IsWithin after.histories (with_lines forgot.histories s.change)
    → IsCacheOf after (contents_in new)
settled_kept law old new s before forgot after settling desk settled are counts services templates more_counts more_services same_templates same_receipts more_receipts same_histories more_histories =
    subst (IsCacheOf after) (sym settled)
    (kept_after law (contents_in old) s before after settling (subst (λ (c : Contents). AreInOrder c.desk) settled desk.holds.lawful.desk) are
    (subst (λ (m : Named ℕ). IsWithin after.counts (insert m s.caller s.number)) counts more_counts)
    (subst (λ (m : Named ServiceParts). IsWithin after.services (with_changed m s.change)) services more_services)
    (same_templates ∙ templates)
    (subst (λ (m : Named (List Line)). IsWithin after.histories (with_lines m s.change)) same_histories more_histories)
    (λ k before_are is. more_receipts k (subst (λ (m : Named NumberedReceipt). AreReceipts m k) (sym same_receipts) before_are) is))

-- A change of a service, by its parts.

pub changed_so : (m n : Named ServiceParts) (change : DeskChange) (s : ServiceParts) (effects : List Effect) (name : List ℕ) → change ≡ Updates s effects → name ≡ s.service.name → IsWithin n (insert m name s) → IsWithin n (with_changed m change)
changed_so m n change s effects name is named within =
    subst (λ (x : DeskChange). IsWithin n (with_changed m x)) (sym is) (subst (λ (k : List ℕ). IsWithin n (insert m k s)) named within)

-- nothing is put
pub nothing_put : {A : Type 0} (m : Named A) (name : List ℕ) (found : Option A) → get m name ≡ None → IsWithin m (put_some m name found)
nothing_put m name None none = λ q v is. is
nothing_put m name (Some s) none = kept_within m m name s (λ q v is. is) none

pub found_put : {A : Type 0} (m n : Named A) (name : List ℕ) (found : Option A) (s copy : A) → found ≡ Some s → copy ≡ s → IsWithin n (insert m name copy) → IsWithin n (put_some m name found)
found_put {A} m n name found s copy is same within =
    subst (λ (o : Option A). IsWithin n (put_some m name o)) (sym is) (subst (λ (x : A). IsWithin n (insert m name x)) same within)

-- Nothing is kept.

none_of_nothing : {A : Type 0} (m : Named A) (k : List ℕ) (v : A) → m ≡ empty → get m k ≡ Some v → ⊥
none_of_nothing {A} m k v is e =
    let none : None ≡ Some v = sym (get-empty (slice_cmp nat_cmp) k) ∙ ap (λ (n : Named A). get n k) (sym is) ∙ e in cc

pub nothing_kept : (kept : Cache) (c : Contents) → KeepsNothing kept → IsCacheOf kept c
nothing_kept kept c nothing =
    record {
      counts = λ name count e. absurd (none_of_nothing kept.counts name count nothing.counts e);
      services = λ name s e. absurd (none_of_nothing kept.services name s nothing.services e);
      templates = λ name t e. absurd (none_of_nothing kept.templates name t nothing.templates e);
      receipts = λ place r e. absurd (none_of_nothing kept.receipts place r nothing.receipts e);
      histories = λ name lines e. absurd (none_of_nothing kept.histories name lines nothing.histories e);
    }
