mod Deeds
