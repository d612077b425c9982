-- What a book keeps of what it has read.
use Rattle.std.specs.Prelude.{◌≡◌, ℕ, List, Option, Some, None, option_map}
use Rattle.std.specs.FinMap.{get, insert, remove, empty}
use Rattle.canary_plan.specs.declared.line.Line.{Line}
use Rattle.canary_plan.specs.declared.template.Template.{Template}
use Rattle.canary_release.specs.declared.service.ServiceParts.{ServiceParts}
use Rattle.canary_release.specs.declared.effect.Effect.{Effect}
use Rattle.canary_release.specs.declared.decide.DeskChange.{DeskChange}
use Rattle.canary_release.specs.declared.decide.DeskChange.TheVariants.{Nothing, Template as AddsTemplate, Service as Updates}
use Rattle.canary_release.specs.Desks.{newest}
use Rattle.canary_release.specs.Stored.{stored_service}
use Rattle.canary_once.specs.Contents.{Contents, count_of, receipt_at, put_some}
use Rattle.canary_once.specs.Records.{history_of}
use Rattle.canary_once.specs.Showing.{lines_after}
use Rattle.canary_tables.specs.CacheMaps.{Named}
use Rattle.canary_tables.specs.declared.cache.Cache.{Cache}
use Rattle.canary_tables.specs.declared.cache.NumberedReceipt.{NumberedReceipt}

-- each count is that of its caller
abbrev pub AreCounts : Named ℕ → Contents → Type 0
AreCounts counts c =
    (caller : List ℕ) (count : ℕ) → get counts caller ≡ Some count → count ≡ count_of c caller

-- each service is what is kept of the service of that name
abbrev pub AreServices : Named ServiceParts → Contents → Type 0
AreServices services c =
    (name : List ℕ) (s : ServiceParts) → get services name ≡ Some s → stored_service c.desk name
    ≡ Some s

-- each template is the newest revision of the template of that name
abbrev pub AreTemplates : Named Template → Contents → Type 0
AreTemplates templates c =
    (name : List ℕ) (t : Template) → get templates name ≡ Some t
    → newest c.desk.templates name ≡ Some t

-- each receipt is that of its caller under its number, wherever it is kept
abbrev pub AreReceipts : Named NumberedReceipt → Contents → Type 0
AreReceipts receipts c =
    (place : List ℕ) (r : NumberedReceipt) → get receipts place ≡ Some r
    → receipt_at c r.caller r.number ≡ Some r.receipt

-- each history is that of the service of that name, whole
abbrev pub AreHistories : Named (List Line) → Contents → Type 0
AreHistories histories c =
    (name : List ℕ) (lines : List Line) → get histories name ≡ Some lines
    → lines ≡ history_of c name

-- what is kept is what the contents have
pub record IsCacheOf (kept : Cache) (c : Contents) : Type 0 where
  pub counts : AreCounts kept.counts c
  pub services : AreServices kept.services c
  pub templates : AreTemplates kept.templates c
  pub receipts : AreReceipts kept.receipts c
  pub histories : AreHistories kept.histories c

-- nothing is kept
pub record KeepsNothing (kept : Cache) : Type 0 where
  pub counts : kept.counts ≡ empty
  pub services : kept.services ≡ empty
  pub templates : kept.templates ≡ empty
  pub receipts : kept.receipts ≡ empty
  pub histories : kept.histories ≡ empty

-- without the template of which a change adds a revision
abbrev pub without_revised : Named Template → DeskChange → Named Template
without_revised templates (AddsTemplate template) = remove templates template.spec.name
without_revised templates Nothing = templates
without_revised templates (Updates s effects) = templates

-- with the service that a change brings
abbrev pub with_changed : Named ServiceParts → DeskChange → Named ServiceParts
with_changed services (Updates s effects) = insert services s.service.name s
with_changed services Nothing = services
with_changed services (AddsTemplate template) = services

-- with the lines of effects at the end of the history under a name, if that is kept
abbrev pub with_told : Named (List Line) → List ℕ → List Effect → Named (List Line)
with_told histories name effects =
    put_some histories name (option_map (λ lines. lines_after lines effects) (get histories name))

-- with the lines of a change
abbrev pub with_lines : Named (List Line) → DeskChange → Named (List Line)
with_lines histories (Updates s effects) = with_told histories s.service.name effects
with_lines histories Nothing = histories
with_lines histories (AddsTemplate template) = histories

-- what is kept of the service that a change names
abbrev pub kept_of : Named ServiceParts → DeskChange → Option ServiceParts
kept_of services (Updates s effects) = get services s.service.name
kept_of services Nothing = None
kept_of services (AddsTemplate template) = None

-- what is known of the service of that name, if anything is, is what the contents have of it
abbrev pub IsKnownAs : Option ServiceParts → List ℕ → Contents → Type 0
IsKnownAs cached name c = (k : ServiceParts) → cached ≡ Some k → stored_service c.desk name ≡ Some k

-- so of the service that a change names
abbrev pub IsKnown : Option ServiceParts → DeskChange → Contents → Type 0
IsKnown cached (Updates s effects) c = IsKnownAs cached s.service.name c
IsKnown cached Nothing c = Unit {0}
IsKnown cached (AddsTemplate template) c = Unit {0}
