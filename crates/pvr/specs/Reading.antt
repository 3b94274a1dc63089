-- What a PVR file says, shown as every reader of files shows it. Assumes nothing: these are definitions.
use Rattle.std.specs.Prelude.{false, List, ℕ, None}
use Rattle.files.specs.Reading.{Says}
use Rattle.files.specs.declared.Stored.{Stored}
use Rattle.pvr.specs.Header.{width_field, height_field, is_two, metadata_size, payload_offset, header_checks}

-- The plate that a header describes. The metadata is skipped; no size is said, and what follows the metadata is the data itself.
abbrev pub pvr_plate : List ℕ → Stored
pvr_plate file =
    record {
      width = width_field file;
      height = height_field file;
      is2bpp = is_two file;
      skipped = metadata_size file;
      cut = false;
      size = None;
      payload = payload_offset file;
    }

-- The refusals of the header, and the plate.
abbrev pub pvr_says : List ℕ → Says
pvr_says file = record { refusals = header_checks file; plate = pvr_plate file }
