-- How records are taken of a file one after another.
use Rattle.std.proofs.Common.{◌≡◌, ◌∙◌, ◌+◌, ℕ, List, [], ◌∷◌, ◌++◌, length, true, inl, refl, arith}
use Rattle.std.specs.Prelude.{Some, None, Ok}
use Rattle.std.proofs.lemmas.List.{length-append}
use Rattle.csv.specs.declared.reader.Reader.{Reader}
use Rattle.csv.specs.declared.parser.State.TheVariants as st
use Rattle.csv.specs.Reading.{default_config, strip_bom, reader_state, took_first, ReadRecord}
use Rattle.csv.proofs.ReadFacts.{rows-more}
use Rattle.canary_files.specs.declared.reading.FileReader.{FileReader}
use Rattle.canary_base.specs.Writes.{Known}
use Rattle.canary_files.specs.Taking.{Fields, BeginsWith, StandsBehind, HasTaken, TakesNext, taken_of}

module _ {S : Type 0} (left : S → Known) where
  stands_next : (file : Known) (old new : Reader S) (records : List Fields) (fields : Fields)
      → StandsBehind left file old records → took_first new ≡ true → ReadRecord left old new true fields → StandsBehind left file new (records ++ fields ∷ [])
  stands_next file old new records fields s first r = record {
    config = r.2 ∙ s.config;
    trim = r.3 ∙ s.trim;
    ready = inl first;
    known = λ bytes e. (let k = s.known bytes e in rows-more left old new fields default_config st.StartRecord (strip_bom bytes) k.0 records s.config k.1 k.2 r);
  }

  -- a file begins with the records after which a reader stands
  pub begins : (file : Known) (reader : Reader S) (records : List Fields) → StandsBehind left file reader records → BeginsWith file records
  begins None reader records s = tt
  begins (Some bytes) reader records s = let k = s.known bytes refl in (reader_state reader, k.0, k.2)

  module _ (spare : S → ℕ) (file : Known) (old new : FileReader S) (records : List Fields) (fields : Fields) (had : HasTaken left file old records) where
    pub takes_one : took_first new.reader ≡ true → ReadRecord left old.reader new.reader true fields → taken_of new ≡ taken_of old + 1 → TakesNext left spare file new records fields (Ok true)
    takes_one first r one =
        let many : taken_of old ≡ length records = had.many in
        record {
          stands = stands_next file old.reader new.reader records fields had.stands first r;
          many = omega (arith, one, many, length-append records (fields ∷ []));
        }
