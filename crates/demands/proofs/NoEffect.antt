-- Fields of a header that are ignored have no effect on anything that reads a file, nor has what follows level 0. Assumes nothing.
use Rattle.std.proofs.Common.{◌≡◌, ℕ, ◌<◌, ◌≤◌, true, false, cond, eqb, ltb, leb, List, length, drop, sym, refl, ap, ◌∙◌, ap₂, arith, le-ltb, le-leb}
use borrow.Author.Tests.{lt-leb}
use Rattle.files.specs.Fields.{bits_of}
use Rattle.files.specs.Reading.{Says}
use Rattle.files.specs.declared.Stored.{Stored}
use Rattle.files.proofs.Answers.{SameSays}
use Rattle.files.proofs.Fields.{rest-same}
use Rattle.files.proofs.Starts.{start-even}
use Rattle.pvr.specs.Header.{header_size, payload_offset}
use Rattle.pvr.specs.NoEffect.{may_differ, SameHeader}
use Rattle.pvr.proofs.NoEffect as pvr
use Rattle.ktx.specs.Header.{ktx_bytes, is_ktx}
use Rattle.ktx.specs.NoEffect.{SameButIgnored, SameHeader as KtxHeader}
use Rattle.ktx.specs.Picture as ktx-picture
use Rattle.ktx.proofs.NoEffect as ktx
use Rattle.pixel.specs.declared.ChannelOrder.{ChannelOrder}
use Rattle.pvrtc.specs.Picture.{in_order}
use Rattle.capi.specs.Ktx.{ktx_field, WroteKtx}
use Rattle.capi.specs.Plate.{sized_field, field_of, header_field}
use Rattle.convert.specs.Output.{says_of, picture_of, plate_of, level_data, program_refusal, written, output, Converted}
use Rattle.convert.proofs.Either.{as-ktx, as-pvr}
use Rattle.convert.proofs.Limits.{own_same}
use Rattle.convert.proofs.Past as past
use Rattle.convert.proofs.Said.{header-first}
use Rattle.convert.proofs.Whole.{answered-same}
use Rattle.demands.proofs.Later as later
use Rattle.demands.specs.NoEffect.{SameButFlags, SameProgram, NothingElse, LaterUnread}

-- two files that say the same, and whose data has the same length, are refused alike
pub same-refusal : (f g : List ℕ) → SameSays (says_of f) (says_of g) → length (level_data f) ≡ length (level_data g)
    → program_refusal f ≡ program_refusal g
same-refusal f g says even =
    header-first f
    ∙ ap₂ (λ (h n : ℕ). cond (eqb h 0) n h) says.number (own_same says.plate even)
    ∙ sym (header-first g)

-- where the data is the same too, all that the program does is
module _ (f g : List ℕ) (says : SameSays (says_of f) (says_of g)) (same-data : level_data f ≡ level_data g) where
  same_number : program_refusal f ≡ program_refusal g
  same_number = same-refusal f g says (ap length same-data)

  same-plate : plate_of f ≡ plate_of g
  same-plate = ap picture_of says.plate

  same-output : output f ≡ output g
  same-output =
      ap (λ (n : ℕ). written n (plate_of f) (level_data f)) same_number ∙ ap₂ (written (program_refusal g)) same-plate same-data

  same-laid : {image image' out out' : List ℕ} {r : ℕ} → Converted f image image' out out' r → Converted g image image' out out' r
  same-laid = answered-same same_number same-plate same-data

turned : {s t : Says} → SameSays s t → SameSays t s
turned a = record { number = sym a.number; plate = sym a.plate }

same-program : (f g : List ℕ) → SameSays (says_of f) (says_of g) → level_data f ≡ level_data g → SameProgram f g
same-program f g says same-data =
    let back = turned says in
    record {
      written = same-output f g says same-data;
      laid = λ image image' out out' r. (same-laid f g says same-data, same-laid g f back (sym same-data));
      laid-in-room = λ image image' out out' r. (
        λ a. record { done = λ e. same-laid f g says same-data (a.done e); too-little = a.too-little },
        λ a. record { done = λ e. same-laid g f back (sym same-data) (a.done e); too-little = a.too-little },
      );
    }

-- what lies past a PVR header may not differ
pub past-header : (i : ℕ) → header_size ≤ i → may_differ i ≡ false
past-header i h =
    let low : (n : ℕ) → n ≤ header_size → leb n i ≡ true = λ n l. le-leb n i (omega arith) in
    let high : (n : ℕ) → n ≤ header_size → ltb i n ≡ false = λ n l. le-ltb i n (omega arith) in
    simp (low 4 (omega arith), low 16 (omega arith), low 20 (omega arith), high 8 (omega arith), high 20 (omega arith), high 24 (omega arith))

-- nor may the first four bytes, which tell the kind
first-kept : (i : ℕ) → i < 4 → may_differ i ≡ false
first-kept i h = simp (lt-leb 4 i h, lt-leb 16 i (omega arith), lt-leb 20 i (omega arith))

-- two files that are alike but for PVR's colour space, channel type and flags
module _ {f g : List ℕ} (s : SameButFlags f g) where
  headers : SameHeader f g
  headers = record { short = ap (λ (n : ℕ). ltb n header_size) s.size; flags = s.flags; bytes = λ i _ e. s.bytes i e }

  same-field : (k : ℕ) → header_field f k ≡ header_field g k
  same-field k =
      rw (pvr.same_number headers, pvr.same_width headers, pvr.same-height headers, pvr.same_format headers, pvr.same-payload headers) refl

  same_kind : is_ktx f ≡ is_ktx g
  same_kind = start-even f g ktx_bytes s.size (λ i h. s.bytes i (first-kept i h))

  pvr-says : is_ktx f ≡ false → SameSays (says_of f) (says_of g)
  pvr-says e = rw (as-pvr f e, as-pvr g (sym same_kind ∙ e)) (pvr.same-says headers)

  pvr-data : is_ktx f ≡ false → level_data f ≡ level_data g
  pvr-data e =
      ap (λ (t : Says). drop t.plate.payload f) (as-pvr f e)
      ∙ rest-same f g (payload_offset f) s.size (λ i h. s.bytes i (past-header i (omega arith)))
      ∙ ap (λ (t : Stored). drop t.payload g) (pvr.same-says headers).plate
      ∙ sym (ap (λ (t : Says). drop t.plate.payload g) (as-pvr g (sym same_kind ∙ e)))

flags-turned : {f g : List ℕ} → SameButFlags f g → SameButFlags g f
flags-turned s = record { size = sym s.size; flags = sym s.flags; bytes = λ i e. sym (s.bytes i e) }

-- a field of a header whose values are equal
fields-alike : {n n' w w' h h' b b' p p' s s' : ℕ} (k : ℕ) → n ≡ n' → w ≡ w' → h ≡ h' → b ≡ b' → p ≡ p' → s ≡ s'
    → field_of n (sized_field w h b p s k) k ≡ field_of n' (sized_field w' h' b' p' s' k) k
fields-alike k en ew eh eb ep es = rw (en, ew, eh, eb, ep, es) refl

-- two files that are alike but for KTX's ignored fields and key/value bytes
module _ {f g : List ℕ} (s : SameButIgnored f g) where
  same-ktx-field : (k : ℕ) → ktx_field f k ≡ ktx_field g k
  same-ktx-field k =
      let h = ktx.header-same s in
      fields-alike k (ktx.same_number h) (ktx.same_width h) (ktx.same-height h) (ap bits_of (ktx.same-depth h)) (ktx.same-payload h) h.size

  -- the first four bytes are not ignored, and tell the kind
  same-ktx-kind : is_ktx f ≡ is_ktx g
  same-ktx-kind = start-even f g ktx_bytes s.length-same (λ i h. ktx.first-kept s i (omega arith))

  ktx-says : is_ktx f ≡ true → SameSays (says_of f) (says_of g)
  ktx-says e = rw (as-ktx f e, as-ktx g (sym same-ktx-kind ∙ e)) (ktx.same-says (ktx.header-same s))

  ktx-data : is_ktx f ≡ true → level_data f ≡ level_data g
  ktx-data e =
      ap (λ (t : Says). drop t.plate.payload f) (as-ktx f e)
      ∙ ktx.data-same s
      ∙ sym (ap (λ (t : Says). drop t.plate.payload g) (as-ktx g (sym same-ktx-kind ∙ e)))

-- what C is told of a picture, where the header and the data are the same
same-wrote : (order : ChannelOrder) {f g old new : List ℕ} {n : ℕ} → KtxHeader f g → ktx-picture.level_data f ≡ ktx-picture.level_data g
    → WroteKtx order f old new n → WroteKtx order g old new n
same-wrote order {old = old} h d a =
    let e = ktx.same-refusal h (ap length d) (length old) in
    record { number = a.number ∙ e; words = a.words ∙ ktx.words-alike old e (ap (in_order order) (ktx.same-picture h)) d }

pub nothing-else : NothingElse
nothing-else =
    record {
      pvr = λ f g s.
          record {
            header = λ r. (pvr.no-effect (headers s), pvr.no-effect (headers (flags-turned s)));
            field = same-field s;
            program = λ e. same-program f g (pvr-says s e) (pvr-data s e);
          };
      ktx = λ f g s.
          let h = ktx.header-same s in
          let d = ktx.data-same s in
          let k = ktx.header-turned h in
          record {
            header = λ r. (ktx.no-effect h, ktx.no-effect k);
            field = same-ktx-field s;
            picture = λ order old new r. (ktx.same-decoded h d, ktx.same-decoded k (sym d));
            c-picture = λ order old new n. (same-wrote order h d, same-wrote order k (sym d));
            program = λ e. same-program f g (ktx-says s e) (ktx-data s e);
          };
    }

pub later-unread : LaterUnread
later-unread =
    record {
      program = past.later-unread;
      ktx-header = λ file more h r.
          let same = ktx.header-before file more h in
          (ktx.no-effect (ktx.header-turned same), ktx.no-effect same);
      ktx-picture = later.picture-unread;
      c-picture = later.c-unread;
    }
