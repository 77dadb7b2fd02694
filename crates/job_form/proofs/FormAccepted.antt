-- What it means that the form of a job is accepted.
use Prim.Native.Nat.{ℕ, ◌+◌, ◌*◌, ◌≤◌}
use mathlib.Core.Path.{◌≡◌}
use mathlib.Core.Bool.{Bool, ◌||◌, false, not}
use mathlib.Core.List.{List}
use borrow.Author.Tests.{eqb-true, ltb-false, not-false}
use lib.ListN.{length}
use lib.Dec.{eqb, ltb}
use Rattle.basics.proofs.Bools.{neither_first, neither_second}
use Rattle.answer_forms.specs.Answer.{accepted, ◌then◌}
use Rattle.answer_forms.proofs.Composed.{first_accepted, second_accepted, no_fault}
use Rattle.job_bytes.specs.Versions.{version_number, member_width}
use Rattle.job_bytes.specs.declared.version.Version.{Version}
use Rattle.job_bytes.specs.Format.{arc_offset, member_offset, job_arcs, job_members, version, closing0, closing1}
use Rattle.job_form.specs.Inner.{Layout}
use Rattle.job_form.specs.Form.{fewest_bytes, most_bytes_of, longest_note}
use Rattle.job_form.specs.Form.{size_check, signature_check, layout_check, form_check}

pub record Sized (v : Version) (size : ℕ) : Type 0 where
  pub long : fewest_bytes ≤ size
  pub short : size ≤ most_bytes_of v

pub size_accepted : (v : Version) (size : ℕ) → size_check v size ≡ accepted → Sized v size
size_accepted v size e =
    let neither = no_fault (ltb size fewest_bytes || ltb (most_bytes_of v) size) 11 0 e in
    record {
      long = ltb-false size fewest_bytes (neither_first (ltb size fewest_bytes) (ltb (most_bytes_of v) size) neither);
      short = ltb-false (most_bytes_of v) size (neither_second (ltb size fewest_bytes) (ltb (most_bytes_of v) size) neither);
    }

-- a test for unlike numbers that fails
pub alike : (a b : ℕ) → not (eqb a b) ≡ false → a ≡ b
alike a b e = eqb-true a b (not-false (eqb a b) e)

layout_accepted : (v : Version) (bytes : List ℕ) → Sized v (length bytes) → layout_check v bytes ≡ accepted
    → Layout v bytes
layout_accepted v bytes size e =
    record {
      long = size.long;
      short = size.short;
      note_short = ltb-false longest_note (arc_offset bytes) (neither_first long_note (apart || unended) none);
      arcs_end = alike (member_offset bytes) (arc_offset bytes + 8 * job_arcs bytes) (neither_first apart unended rest);
      members_end =
          alike (member_offset bytes + member_width v * job_members bytes + 16) (length bytes)
          (neither_second apart unended rest);
    }
  where
    long_note : Bool
    long_note = ltb longest_note (arc_offset bytes)

    apart : Bool
    apart = not (eqb (member_offset bytes) (arc_offset bytes + 8 * job_arcs bytes))

    unended : Bool
    unended = not (eqb (member_offset bytes + member_width v * job_members bytes + 16) (length bytes))

    none : (long_note || (apart || unended)) ≡ false
    none = no_fault (long_note || (apart || unended)) 13 0 e

    rest : (apart || unended) ≡ false
    rest = neither_second long_note (apart || unended) none

-- the version, and the closing bytes
pub record Signature (v : Version) (bytes : List ℕ) : Type 0 where
  pub version_is : version bytes ≡ version_number v
  pub closing0_is : closing0 bytes ≡ 84
  pub closing1_is : closing1 bytes ≡ 74

signature_accepted : (v : Version) (bytes : List ℕ) → signature_check v bytes ≡ accepted → Signature v bytes
signature_accepted v bytes e =
    record {
      version_is = alike (version bytes) (version_number v) (neither_first unversioned (unclosed0 || unclosed1) none);
      closing0_is = alike (closing0 bytes) 84 (neither_first unclosed0 unclosed1 rest);
      closing1_is = alike (closing1 bytes) 74 (neither_second unclosed0 unclosed1 rest);
    }
  where
    unversioned : Bool
    unversioned = not (eqb (version bytes) (version_number v))

    unclosed0 : Bool
    unclosed0 = not (eqb (closing0 bytes) 84)

    unclosed1 : Bool
    unclosed1 = not (eqb (closing1 bytes) 74)

    none : (unversioned || (unclosed0 || unclosed1)) ≡ false
    none = no_fault (unversioned || (unclosed0 || unclosed1)) 12 0 e

    rest : (unclosed0 || unclosed1) ≡ false
    rest = neither_second unversioned (unclosed0 || unclosed1) none

module _ (v : Version) (bytes : List ℕ) (e : form_check v bytes ≡ accepted) where
  size : size_check v (length bytes) ≡ accepted
  unfolding form_check
  size = first_accepted (size_check v (length bytes)) (signature_check v bytes then layout_check v bytes) e

  after_size : (signature_check v bytes then layout_check v bytes) ≡ accepted
  unfolding form_check
  after_size = second_accepted (size_check v (length bytes)) (signature_check v bytes then layout_check v bytes) e

  pub form_signature : Signature v bytes
  form_signature = signature_accepted v bytes (first_accepted (signature_check v bytes) (layout_check v bytes) after_size)

  pub form_layout : Layout v bytes
  form_layout =
      layout_accepted v bytes (size_accepted v (length bytes) size)
      (second_accepted (signature_check v bytes) (layout_check v bytes) after_size)
