use Rattle.std.proofs.Common.{◌∙◌, inr, refl, sym, ap}
use Rattle.std.specs.Prelude.{option_map}
use Rattle.csv.specs.Reading.{strip_bom, builder_config, builder_trim, builder_names_headers, Reached}
use Rattle.canary_files.proofs.reading.reader_of.Goals as goal

pub returns-clause-stands : goal.returns-clause-stands
unfolding Reached
returns-clause-stands g c = record {
  config = c.from_reader.ensures.config ∙ ap builder_config c.flexible.ensures ∙ ap builder_config c.has_headers.ensures ∙ c.new.ensures.config;
  trim = c.from_reader.ensures.trim ∙ ap builder_trim c.flexible.ensures ∙ ap builder_trim c.has_headers.ensures ∙ c.new.ensures.trim;
  ready = inr
      (inr (
        c.from_reader.ensures.has_headers ∙ ap builder_names_headers c.flexible.ensures ∙ ap builder_names_headers c.has_headers.ensures,
        c.from_reader.ensures.headers,
      ));
  known = λ bytes e. (strip_bom bytes, c.from_reader.ensures.source ∙ ap (option_map strip_bom) e, (sym c.from_reader.ensures.state, refl));
}
