-- How a list of columns is kept.
use Rattle.std.specs.Prelude.{ℕ, ◌≡◌, ◌<◌, ◌≤◌, true, length, nat_eq, slice_index, vec_capacity}
use Rattle.std.specs.List.{IsDistinct}
use Rattle.cw_tree.specs.Walks.{has}
use Rattle.cw_trace.specs.declared.touched.Touched.TheInside.{Inside}
use Rattle.cw_trace.specs.Listing.{Listing}

abbrev pub listing_of : Inside → Listing
listing_of a = record { columns = a.columns.items; used = length a.places.items; room = a.room }

pub record IsListingInMemory (a : Inside) : Type 0 where
  pub distinct : IsDistinct nat_eq a.columns.items
  pub low : (i : ℕ) → has a.columns.items i ≡ true → i < length a.places.items
  -- each column of the list has its place there
  pub back : (k : ℕ) → k < length a.columns.items → slice_index a.places.items (slice_index a.columns.items k) ≡ k
  pub fits : length a.places.items ≤ a.room
  pub columns_room : a.room ≤ vec_capacity a.columns
  pub places_room : a.room ≤ vec_capacity a.places
