-- What a KTX file says, shown as every reader of files shows it. Assumes nothing: these are definitions.
use Rattle.std.specs.Prelude.{◌≡◌, false, cond, List, ℕ, eqb, None, Some, Result, Ok, Err}
use Rattle.facts.specs.Checks.{first_of, number_said}
use Rattle.files.specs.Reading.{Says}
use Rattle.files.specs.declared.Stored.{Stored}
use Rattle.ktx.specs.Header.{width_field, height_field, is_two, key_value_bytes, cut_short, size_word_of, payload_offset, field_checks, number_of}
use Rattle.ktx.specs.declared.HeaderRefusal.{HeaderRefusal}

-- The plate that the fields describe. The key/value bytes are skipped, and the size word says a size.
abbrev pub ktx_plate : List ℕ → Stored
ktx_plate file =
    record {
      width = width_field file;
      height = height_field file;
      is2bpp = is_two file;
      skipped = key_value_bytes file;
      cut = cut_short file;
      size = Some (size_word_of file);
      payload = payload_offset file;
    }

-- The refusals of the fields, and the plate.
abbrev pub ktx_says : List ℕ → Says
ktx_says file = record { refusals = field_checks file; plate = ktx_plate file }

-- No plate: all of it 0.
abbrev pub no_plate : Stored
no_plate = record { width = 0; height = 0; is2bpp = false; skipped = 0; cut = false; size = None; payload = 0 }

-- The number that the fields' reader says: 0 for none.
abbrev pub fields_number : Result Stored HeaderRefusal → ℕ
fields_number r = number_said number_of r

-- The plate that it gives: none where it refuses.
abbrev pub fields_plate : Result Stored HeaderRefusal → Stored
fields_plate (Ok s) = s
fields_plate (Err f) = no_plate

-- Reading the fields: their number, and where it is 0 the plate that they describe.
pub record FieldsRead (file : List ℕ) (r : Result Stored HeaderRefusal) : Type 0 where
  pub number : fields_number r ≡ first_of (field_checks file)
  pub plate : fields_plate r ≡ cond (eqb (first_of (field_checks file)) 0) (ktx_plate file) no_plate
