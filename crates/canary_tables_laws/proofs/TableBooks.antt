-- From the definitions of canary_tables to those here.
use Rattle.std.proofs.Common.{◌≡◌, ◌⊎◌, inl, inr, refl}
use Rattle.std.specs.Prelude.{Result, Ok, Err, IfOk}
use Rattle.sqlite.specs.Held.{Held, state}
use Rattle.sqlite.specs.Steps.{over_memory}
use Rattle.sqlite.proofs.Callers.{memory_is_clean}
use Rattle.sqlite_trees.specs.declared.memory.MemStore.{MemStore}
use Rattle.sqlite.specs.State.{State}
use Rattle.sqlite_trees.specs.declared.store.Store.{Ghosts}
use Rattle.canary_once.specs.Contents.{no_contents}
use Rattle.canary_tables_schema.specs.Schema.{no_schema}
use Rattle.canary_tables_schema.specs.Cells.{tables_in}
use Rattle.canary_tables_schema.specs.Stores.{IsUsable, IsHeld}
use Rattle.canary_tables_schema.specs.declared.fault.StoreFault.{StoreFault}
use Rattle.canary_tables_schema.specs.declared.fault.StoreFault.TheVariants.{Memory, Storage}
use Rattle.canary_tables_contents.specs.Reading.{HoldsContents}
use Rattle.canary_tables.specs.declared.fault.Unadopted.{Unadopted}
use Rattle.canary_tables.specs.declared.fault.Unadopted.TheVariants as left
use Rattle.canary_tables.specs.declared.fault.TableFault.{TableFault}
use Rattle.canary_tables.specs.declared.fault.TableFault.TheVariants as fault
use Rattle.canary_tables.specs.Faults.{fault_of_store}
use Rattle.canary_tables.specs.Adopts.{IsAdopted, TellsTables, LeavesRows, IsLeftBy, IsOutside}
use Rattle.canary_tables.specs.Desk.{book_state, contents_in}
use Rattle.canary_tables_laws.specs.TableBooks.{IsIntact, AreOfTheirRows, AreHonestMemory, ContainsNothing, ContainsWhatWas, ShowsTables, HasItsTables, IsAsItWas, MayLoseConnection, StandsInNone}

usable : (s : State) → IsIntact s → IsUsable s
usable s i = record { clean = i.0; is_open = i.1 }

intact : (s : State) → IsUsable s → IsIntact s
intact s u = (u.clean, u.is_open)

pub of_their_rows : {S : Type 0} (g : Ghosts S) → AreOfTheirRows g (book_state g)
of_their_rows g h =
    record {
      honest = usable (state g h);
      intact = intact (state g h);
      in_memory = λ all k. usable (state g k) (all k);
      memory = λ all k. intact (state g k) (all k);
      contents = refl;
    }

memory_intact : (h : Held MemStore) → IsIntact (state over_memory h)
memory_intact h = (memory_is_clean h, refl)

pub in_memory : AreHonestMemory (book_state over_memory)
in_memory h =
    let rows = of_their_rows over_memory h in (rows.in_memory memory_intact, rows.honest (memory_intact h))

pub made : {S E : Type 0} (g : Ghosts S) (old : State) (r : Result (Held S) E) → IfOk r (λ _. old.now.schema ≡ no_schema)
    → IfOk r (λ b. IsUsable (state g b) → contents_in (state g b) ≡ no_contents)
    → IfOk r (λ b. ContainsNothing old (state g b) (book_state g b))
made g old (Ok b) empty nothing =
    record {
      empty = empty;
      honest = usable (state g b);
      nothing = λ i. nothing (usable (state g b) i);
    }
made g old (Err e) empty nothing = tt

pub taken_over : {S E : Type 0} (g : Ghosts S) (old : State) (r : Result (Held S) E)
    → IfOk r (λ b. IsUsable (state g b) → IsAdopted old (state g b))
    → IfOk r (λ b. ContainsWhatWas old (state g b) (book_state g b))
taken_over g old (Ok b) adopted =
    record {
      honest = usable (state g b);
      contents = λ i. (adopted (usable (state g b) i)).contents;
      sound = λ i. (adopted (usable (state g b) i)).sound;
      same = λ i. (adopted (usable (state g b) i)).same;
    }
taken_over g old (Err e) adopted = tt

pub shows : {S : Type 0} (g : Ghosts S) (l : Unadopted S) → ShowsTables g l → TellsTables g l
shows g (left.Connection conn) i = usable (state g conn) i
shows g (left.Store store) i = tt

pub as_it_was : {S : Type 0} (g : Ghosts S) (old : State) (l : Unadopted S) → LeavesRows g old l → IsAsItWas g old l
as_it_was g old (left.Connection conn) rows = λ i. let was = rows (usable (state g conn) i) in (intact old was.0, was.1)
as_it_was g old (left.Store store) rows = rows

pub may_lose : {S : Type 0} (f : TableFault) (l : Unadopted S) → IsLeftBy f l → MayLoseConnection f l
may_lose f (left.Connection conn) by = tt
may_lose f (left.Store store) by = lost by.0 by.1 where
  lost : (cause : StoreFault) → f ≡ fault_of_store cause → (f ≡ fault.Memory) ⊎ (f ≡ fault.Storage)
  lost Memory is = inl is
  lost Storage is = inr is

pub in_none : {S : Type 0} (l : Unadopted S) → IsOutside l → StandsInNone l
in_none (left.Connection conn) outside = outside
in_none (left.Store store) outside = tt

pub its_tables : {S : Type 0} (g : Ghosts S) (h : Held S) → (IsUsable (state g h) → IsHeld (state g h).now (tables_in (state g h).now)) → (IsUsable (state g h) → HoldsContents (tables_in (state g h).now))
    → IsIntact (state g h) → HasItsTables (state g h) (book_state g h)
its_tables g h stores holds i =
    let has = holds (usable (state g h) i) in
    record {
      stores = stores (usable (state g h) i);
      rows = has.rows;
      readable = has.readable;
      lawful = has.lawful;
    }
