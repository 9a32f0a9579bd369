use Rattle.cw_order.proofs.tests.a_list_with_room_for_two.Given as goal

abbrev pub ghosts-fill_two_places : goal.ghosts-fill_two_places
ghosts-fill_two_places g a = record { name = a.blank.name; parts = a.blank.parts }
