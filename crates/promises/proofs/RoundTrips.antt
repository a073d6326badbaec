-- What was written is read back, and what was read is written again by the same bytes.
use Prim.Native.Nat.{ℕ}
use mathlib.Core.Path.{◌≡◌, refl, sym}
use mathlib.Core.List.{List, ◌++◌}
use native.Mathlib.Omega.{arith}
use Rattle.theory.specs.Nets as Theory
use Rattle.theory.specs.Recording.{State, Alike, bound}
use Rattle.theory.specs.Replies.{Reply, value, refusal, ◌>>=◌}
use Rattle.theory.proofs.Answers.{clash}
use Rattle.numbers.proofs.RoundTrips.{written_read, read-written}
use Rattle.numbers.proofs.Signed.{signed-stored, stored-signed}
use Rattle.codec.specs.Reader.{ok}
use Rattle.codec.proofs.Inverse.{read_ok}
use Rattle.net.specs.declared.Edition.{Edition}
use Rattle.net.specs.declared.Net.{Net}
use Rattle.net.specs.Check.{net_check}
use Rattle.description.specs.Grammar.{description}
use Rattle.description.specs.Read.{description_read}
use Rattle.description.specs.Writing.{net_bytes, written}
use Rattle.description.specs.Full.{Full}
use Rattle.description.proofs.Inverse as Descriptions
use Rattle.states.specs.States.Writing.{Fit}
use Rattle.states.specs.States.Nets.{saved}
use Rattle.states.specs.States.{Restored, state}
use Rattle.states.proofs.Inverse.{trimmed, state-forth}
use Rattle.observer.specs.Bytes.{described, restored_in}
use Rattle.values.proofs.Observers as Observers
use Rattle.promises.specs.Promises.{RoundTrips}
use Rattle.promises.proofs.Described.{fine-net, written_back, trimmed-same, read-bytes}

-- ---- descriptions

description-written : (net : Net) (b : List ℕ) → Full net → written net ≡ value b → description_read b ≡ value net
unfolding written description_read
description-written net b full u = go (net_check net) refl u
  where
    go : (c : Reply Unit) → net_check net ≡ c → (c >>= λ _. value (net_bytes net)) ≡ value b → description_read b ≡ value net
    go (value x) v w = let same : net_bytes net ≡ b = cc in rw (← same, Descriptions.read-write net full v)
    go (refusal n) v w = clash (cc)

description-read : (net : Net) (b : List ℕ) → description_read b ≡ value net → written net ≡ value b
unfolding written description_read
description-read net b u =
    let was = read_ok (description b) u in
    rw (Descriptions.read-good b was.0 net was.1, Descriptions.write_read b was.0 net was.1)

-- ---- states, for a net that is described

state-written : (d : List ℕ) (net : Theory.Net) → described d ≡ value net → (edition : Edition) (s : State) → Fit bound net.places net.groups s
    → (t : State) × (restored_in net (saved edition net s) ≡ value (record { edition = edition; state = t })) × Alike net s t
state-written d net says edition s fit = (trimmed net s, written_back d net says edition s fit, trimmed-same d net says s fit)

state-followed : (d : List ℕ) (net : Theory.Net) → described d ≡ value net → (edition : Edition) (s : State) → Fit bound net.places net.groups s
    → (rest : List ℕ)
    → (t : State) × (state bound net.places net.groups (saved edition net s ++ rest) ≡ ok (record { edition = edition; state = t }) rest) × Alike net s t
state-followed d net says edition s fit rest =
    let of = fine-net d net says in
    let forth = state-forth bound (omega arith) net of.good.outward of.places (omega (arith, of.groups)) edition s fit rest in
    (trimmed net s, forth, trimmed-same d net says s fit)

state-read : (d : List ℕ) (net : Theory.Net) → described d ≡ value net
    → (b : List ℕ) (x : Restored) → restored_in net b ≡ value x → saved x.edition net x.state ≡ b
state-read d net says b x r = sym (read-bytes d net says b x r)

pub round-trips : RoundTrips
round-trips =
    record {
      descriptions-written = description-written;
      descriptions-read = description-read;
      observers-written = Observers.write_read;
      observers-read = Observers.read-write;
      states-written = state-written;
      states-followed = state-followed;
      states-read = state-read;
      numbers-written = written_read;
      numbers-read = read-written;
      signed-written = signed-stored;
      signed-read = stored-signed;
    }
