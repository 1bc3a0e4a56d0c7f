mod Expanding
