-- What is met before the records of the worked batches (crates/examples), and their markers, by the definitions of this
-- crate. What proves each stands in proofs/ under the statement's name in small letters: `worked-opened :
-- WorkedOpened`.
use Rattle.std.specs.Prelude.{ℕ, zero, suc, ◌≡◌, Bool, true, false, map, length}
use Rattle.primitives.specs.Step.{Step, ok, no, map_step}
use Rattle.examples.specs.Examples.{Example, marker_examples, examples, Refusal, batch_refusals, marker_refusals}
use Rattle.records.specs.Format.{Record}
use Rattle.layout.specs.Table.{fixed_part}
use Rattle.layout.specs.Batch.{Marker, Content, control, records}
use Rattle.layout.specs.Format.{how_many}
use Rattle.layout.specs.Worked.{example_type, example_fields, example_content}
use Rattle.opening.specs.Judgement.{Judged, more, refused, accepted, Attributes, attributes_in, bare_marker_at}
use Rattle.opening.specs.Opened.{KnownAt, open_at}

-- ---- attributes

abbrev is_control : {R : Type 0} → Content R → Bool
is_control (control m) = true
is_control (records rs) = false

abbrev example_attributes : Example → Attributes
example_attributes e =
    record {
      codec = 0;
      timestamp_type = example_type e.log_append;
      transactional = e.transactional;
      control = is_control (example_content e.holds);
    }

-- The attributes of each worked batch say what is given with it.
abbrev pub WorkedAttributes : Type 0
WorkedAttributes = map (λ (e : Example). attributes_in e.bytes 0) examples ≡ map example_attributes examples

-- ---- what is known before the marker or the records

abbrev example_known : Example → Judged KnownAt
example_known e =
    accepted
    (record {
      known =
          record {
            fields = example_fields e;
            control = is_control (example_content e.holds);
            count = how_many (example_content e.holds);
          };
      next = fixed_part;
      total = length e.bytes;
    })

-- Each worked batch opens with its fields, its kind and its count, and is as long as it is.
abbrev pub WorkedOpened : Type 0
WorkedOpened = map (λ (e : Example). open_at e.bytes 0) examples ≡ map example_known examples

-- by the number of bytes that are needed, where some are
abbrev refusal_of : {A : Type 0} → (number needed : ℕ) → Judged A
refusal_of number zero = refused number
refusal_of number (suc k) = more (suc k)

-- What is wrong before the marker or the records is refused by the number that is given with it.
abbrev pub WorkedRefusals : Type 0
WorkedRefusals =
    map (λ (e : Refusal). open_at e.bytes 0) batch_refusals
    ≡ map (λ (e : Refusal). refusal_of e.number e.needed) batch_refusals

-- ---- markers

abbrev read_marker : Example → Step ℕ (Content Record)
read_marker e = map_step control (bare_marker_at e.bytes fixed_part)

abbrev due_marker : Example → Step ℕ (Content Record)
due_marker e = ok (example_content e.holds) (length e.bytes)

abbrev due_wrong : Refusal → Step ℕ Marker
due_wrong e = no e.number

-- Each worked marker is read as what it is, up to its end, and each wrong one is refused by the number that is given
-- with it.
abbrev pub WorkedMarkers : Type 0
WorkedMarkers =
    (map read_marker marker_examples ≡ map due_marker marker_examples)
    × (map (λ (e : Refusal). bare_marker_at e.bytes fixed_part) marker_refusals ≡ map due_wrong marker_refusals)
