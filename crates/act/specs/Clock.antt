-- The clock's new time is in the header: nothing else has changed. Assumes nothing.
use Rattle.std.specs.Prelude.{ℕ, ◌+◌, ◌^◌, ◌≤◌, ◌<◌, ◌≡◌, List, [], map, length, drop, get_or}
use Rattle.std.proofs.Common.{sym, ap, ◌∙◌, subst, inl, arith}
use Rattle.memory.specs.Bytes.{le, part, patch}
use Rattle.memory.proofs.Laws.{length_le, length_part, part_elsewhere, drop_behind}
use Rattle.queue.specs.Tree.{node}
use Rattle.slots.specs.Table.{slots}
use Rattle.slots.proofs.Laws.{get_d_slots}
use Rattle.table.specs.View.{View, view, with_header}
use Rattle.table.specs.Header.{header_of, with_clock}
use Rattle.table.specs.declared.Header.{Header}
use Rattle.table.proofs.HeaderLaws.{clock_stored}
use Rattle.state.specs.State.{header_in, slots_of}
use Rattle.state.specs.Names.{NamesAllBut}
use Rattle.state.specs.Change.{ready_same}
use Rattle.hand.specs.Acting.{Busy}
use Rattle.act.specs.Size.{long_enough}

-- the header with this clock
abbrev pub clocked_at : ℕ → Header → Header
clocked_at w h = record {
  layout = h.layout;
  capacity = h.capacity;
  timeout = h.timeout;
  lateness = h.lateness;
  resolution = h.resolution;
  clock = record { 0 = w };
}

-- a state in order has another clock, and is as it was in all else
pub record Clocked (c T w : ℕ) (s s' index free : List ℕ) : Type 0 where
  pub busy : Busy c T s' index free
  pub slots_are : slots_of (slots s' c) ≡ slots_of (slots s c)
  pub header : header_in s' ≡ clocked_at w (header_in s)
  pub settings : part (view c s').header 0 40 ≡ part (view c s).header 0 40
  pub spare_header : drop 48 (view c s').header ≡ drop 48 (view c s).header
  pub spare_slots : map (drop 376) (view c s').table ≡ map (drop 376) (view c s).table
  pub spare_node : node (view c s').tree 0 ≡ node (view c s).tree 0
  pub rest : (view c s').rest ≡ (view c s).rest

-- what `table::store_clock` promises comes to this
pub clock_acted : (c T w : ℕ) (s s' index free : List ℕ) → Busy c T s index free → w < 2 ^ 64
    → view c s' ≡ with_header (with_clock w (view c s).header) (view c s) → Clocked c T w s s' index free
unfolding with_clock
clock_acted c T w s s' index free busy small e =
    let table : slots s' c ≡ slots s c = ap (λ (v : View). v.table) e in
    let tree : (view c s').tree ≡ (view c s).tree = ap (λ (v : View). v.tree) e in
    let header : (view c s').header ≡ patch (view c s).header 40 (le 8 w) = ap (λ (v : View). v.header) e in
    let long : length (view c s).header ≡ 256 = length_part s 0 256 (omega (arith, busy.size)) in
    let fits : 40 + length (le 8 w) ≤ length (view c s).header = omega (arith, length_le 8 w) in
    let names : NamesAllBut c T (view c s').table (view c s').tree [] =
    subst (λ (v : View). NamesAllBut c T v.table v.tree []) (sym e) busy.names in
    record {
      busy = record {
        size = long_enough s' c busy.some names.sound.size;
        some = busy.some;
        most = busy.most;
        ready =
            ready_same s s' c index free busy.ready
            (λ j low. sym (get_d_slots s' c j low) ∙ ap (λ (l : List (List ℕ)). get_or l j []) table ∙ get_d_slots s c j low);
        names = names;
      };
      slots_are = ap slots_of table;
      header = ap header_of header ∙ clock_stored w (view c s).header (omega arith) small;
      settings = ap (λ (b : List ℕ). part b 0 40) header ∙ part_elsewhere (view c s).header 40 (le 8 w) fits 0 40 (inl (omega arith));
      spare_header =
          ap (drop 48) header ∙ drop_behind (view c s).header 40 (le 8 w) 48 (omega (arith, length_le 8 w)) (omega arith);
      spare_slots = ap (map (drop 376)) table;
      spare_node = ap (λ (t : List ℕ). node t 0) tree;
      rest = ap (λ (v : View). v.rest) e;
    }
